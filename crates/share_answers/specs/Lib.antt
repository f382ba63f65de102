-- The definitions of `share_answers`.
pub mod Refusals
pub mod Answers
