-- The definitions of `compare_exports`.
pub mod Calls
