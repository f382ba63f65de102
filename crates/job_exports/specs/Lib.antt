-- The definitions of `job_exports`.
pub mod Calls
pub mod Back
pub mod Exactly
