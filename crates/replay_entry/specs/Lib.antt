-- The definitions of `replay_entry`.
pub mod Outcomes
pub mod Entries
