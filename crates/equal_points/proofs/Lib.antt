-- The laws of `equal_points`, lowest first.
pub mod Table
