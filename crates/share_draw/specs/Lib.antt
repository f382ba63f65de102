-- The definitions of `share_draw`.
pub mod Room
pub mod Operations
