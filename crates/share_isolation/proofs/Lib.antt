-- The laws of `share_isolation`.
pub mod Steps
mod Beside
mod Seen
pub mod OwnState
pub mod Step
pub mod Lengths
pub mod Isolation
pub mod OneCall
pub mod Runs
