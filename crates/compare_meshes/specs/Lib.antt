-- The definitions of `compare_meshes`.
pub mod Answers
