-- The laws of `triangle_table`.
pub mod Walks
