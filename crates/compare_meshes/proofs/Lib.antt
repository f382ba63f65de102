-- The laws of `compare_meshes`, lowest first.
pub mod Verdicts
