-- The definitions of `patch_text`.
pub mod Room
pub mod Answers
