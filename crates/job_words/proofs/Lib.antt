-- The laws of `job_words`.
pub mod Places
