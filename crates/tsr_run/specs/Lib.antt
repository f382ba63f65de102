-- The definitions of `tsr_run`.
pub mod Rests
pub mod Runs
