-- The laws of `replay_recording`, lowest first.
pub mod Entry
pub mod Recordings
