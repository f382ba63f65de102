-- The definitions of `compare_sameness`.
pub mod Same
pub mod Refusals
