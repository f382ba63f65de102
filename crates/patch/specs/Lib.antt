-- The definitions of `patch`.
pub mod Turn
pub mod Every
pub mod Counted
pub mod Subdivide
