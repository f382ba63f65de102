-- The definitions of `tessellate`.
pub mod Refusals
pub mod Answers
pub mod Draws
