-- The definitions of `share_isolation`.
pub mod Steps
pub mod Session
pub mod Run
