-- The laws of `tsj_run`, lowest first.
pub mod Rests
pub mod Runs
