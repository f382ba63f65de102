-- The laws of `compare_sameness`, lowest first.
pub mod Lists
pub mod Rotations
pub mod Sames
pub mod Exactly
