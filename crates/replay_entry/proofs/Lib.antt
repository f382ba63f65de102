-- The laws of `replay_entry`, lowest first.
pub mod Drawings
pub mod Today
pub mod Sides
