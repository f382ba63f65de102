-- The definitions of `share_calls`.
pub mod Run
