-- The definitions of `isoline_points`.
pub mod Equal
