-- The definitions of `triangle_point_rows`.
pub mod Rings
pub mod Parts
