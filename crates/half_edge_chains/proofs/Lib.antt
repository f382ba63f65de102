-- The laws of `half_edge_chains`, lowest first.
pub mod Numbers
pub mod Table
