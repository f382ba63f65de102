-- The laws of `call_answers`.
pub mod Replies
pub mod ClampBytes
