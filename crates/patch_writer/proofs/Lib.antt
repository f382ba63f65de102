-- The laws of `patch_writer`.
pub mod Cuts
pub mod Modes
