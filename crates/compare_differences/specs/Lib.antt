-- The definitions of `compare_differences`.
pub mod Lacking
pub mod Meshes
pub mod Found
pub mod Differences
