-- The definitions of `job_words`.
pub mod Inputs
pub mod Found
