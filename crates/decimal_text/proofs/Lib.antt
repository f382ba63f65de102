-- The laws of `decimal_text`.
pub mod Digits
pub mod Lines
pub mod Rows
pub mod Examples
