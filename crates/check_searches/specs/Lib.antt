-- The definitions of `check_searches`.
pub mod First
pub mod Indices
pub mod Points
pub mod Triangles
