-- The definitions of `check_watertight`.
pub mod Closing
