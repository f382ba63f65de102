-- The definitions of `job_bytes`.
pub mod Written
pub mod Patterns
