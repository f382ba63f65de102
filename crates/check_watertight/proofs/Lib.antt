-- The laws of `check_watertight`.
pub mod Joins
