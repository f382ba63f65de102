-- The laws of `job_record_text`.
pub mod Never
pub mod Ends
