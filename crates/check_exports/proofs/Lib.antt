-- The laws of `check_exports`.
pub mod Calls
pub mod Covered
pub mod Exactly
