-- The definitions of `check_exports`.
pub mod Founds
pub mod Exactly
