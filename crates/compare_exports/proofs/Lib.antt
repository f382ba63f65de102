-- The laws of `compare_exports`.
pub mod Numbers
pub mod Exactly
