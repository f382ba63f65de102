-- The definitions of `replay_recording`.
pub mod Recordings
