-- The definitions of `job_text`.
pub mod Jobs
pub mod Reported
pub mod Pieces
