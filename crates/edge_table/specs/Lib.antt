-- The definitions of `edge_table`.
pub mod Stored
