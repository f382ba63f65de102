-- The definitions of `quad_points`.
pub mod Patches
