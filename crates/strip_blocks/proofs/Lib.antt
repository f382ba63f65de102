-- The laws of `strip_blocks`, for other crates.
pub mod Blocks
