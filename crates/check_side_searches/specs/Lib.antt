-- The definitions of `check_side_searches`.
pub mod Skips
pub mod Same
