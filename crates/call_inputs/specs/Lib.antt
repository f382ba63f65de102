-- The definitions of `call_inputs`.
pub mod Inputs
pub mod Asked
pub mod Exactly
