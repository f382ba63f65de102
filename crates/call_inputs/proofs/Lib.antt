-- The laws of `call_inputs`.
pub mod Known
pub mod Exactly
pub mod Reading
