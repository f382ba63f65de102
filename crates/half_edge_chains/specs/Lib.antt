-- The definitions of `half_edge_chains`.
pub mod Sides
pub mod Links
