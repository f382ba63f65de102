-- The laws of `check_side_searches`, lowest first.
pub mod Skips
pub mod Sided
pub mod Corners
