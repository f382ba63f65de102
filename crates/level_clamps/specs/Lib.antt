-- The definitions of `level_clamps`.
pub mod Clamps
pub mod Numbers
