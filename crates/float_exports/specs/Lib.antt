-- The definitions of `float_exports`.
pub mod Calls
pub mod Exactly
