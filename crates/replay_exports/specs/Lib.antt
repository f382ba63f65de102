-- The definitions of `replay_exports`.
pub mod Calls
