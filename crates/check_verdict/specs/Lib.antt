-- The definitions of `check_verdict`.
pub mod Faults
