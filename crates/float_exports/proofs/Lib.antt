-- The laws of `float_exports`.
pub mod Calls
pub mod Exactly
pub mod Numbers
pub mod Together
