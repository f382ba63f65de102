-- The definitions of `share_exports`.
pub mod Calls
pub mod Exactly
