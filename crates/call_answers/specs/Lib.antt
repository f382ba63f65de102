-- The definitions of `call_answers`.
pub mod Replies
pub mod Clamps
