-- The definitions of `tsr_line`.
pub mod Sentences
