-- The definitions of `patch_outline`.
pub mod Outlines
