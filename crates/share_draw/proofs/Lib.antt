-- The laws of `share_draw`.
pub mod Parts
pub mod Counts
mod Lent
pub mod Drawn
