-- The definitions of `triangle_table`.
pub mod Hits
