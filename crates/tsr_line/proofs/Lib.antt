-- The laws of `tsr_line`.
pub mod Spaces
