-- The laws of `level_clamps`.
pub mod Numbers
