-- The laws of `share_state`.
pub mod Sound
