-- The laws of `patch_outline`.
pub mod Around
pub mod Fronts
