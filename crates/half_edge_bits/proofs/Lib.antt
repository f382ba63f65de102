-- The laws of `half_edge_bits`.
pub mod Bits
pub mod Rows
