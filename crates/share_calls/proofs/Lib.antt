-- The laws of `share_calls`.
pub mod Calls
pub mod Runs
pub mod OneCall
pub mod Lengths
