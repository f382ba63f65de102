-- The definitions of `half_edge_bits`.
pub mod Rows
