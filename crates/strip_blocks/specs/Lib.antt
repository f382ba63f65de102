-- The definitions of `strip_blocks`.
pub mod Blocks
