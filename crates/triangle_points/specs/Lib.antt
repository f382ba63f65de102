-- The definitions of `triangle_points`.
pub mod Patches
