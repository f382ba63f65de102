-- The laws of `compare_lists`, lowest first.
pub mod Passing
pub mod Parts
