-- The laws of `job_text`, lowest first.
pub mod Sizes
pub mod Steps
pub mod Answering
pub mod Same
pub mod Pieces
