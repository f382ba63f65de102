-- The definitions of `job_writer`.
pub mod Whole
pub mod Answers
pub mod InTurn
