-- The laws of `check_faults`, lowest first.
pub mod Corners
pub mod Wide
pub mod Turns
pub mod Pieces
pub mod Known
