-- The definitions of `equal_points`.
pub mod Marks
