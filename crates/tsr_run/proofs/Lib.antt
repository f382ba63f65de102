-- The laws of `tsr_run`, lowest first.
pub mod Rests
pub mod Runs
