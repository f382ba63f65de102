-- The definitions of `decimal_text`.
pub mod Digits
pub mod Lines
pub mod Heads
