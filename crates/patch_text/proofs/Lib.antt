-- The laws of `patch_text`, lowest first.
pub mod Rows
pub mod Sizes
pub mod Drawn
