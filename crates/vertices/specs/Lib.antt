-- The definitions of `vertices`.
pub mod Rows
pub mod Edges
pub mod Grids
