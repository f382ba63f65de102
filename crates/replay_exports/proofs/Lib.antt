-- The laws of `replay_exports`.
pub mod Exactly
