-- The definitions of `job_record_text`.
pub mod Replies
