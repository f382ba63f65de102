-- The definitions of `share_state`.
pub mod SharedList
pub mod Answers
pub mod Operations
