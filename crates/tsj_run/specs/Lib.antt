-- The definitions of `tsj_run`.
pub mod Rests
pub mod Runs
