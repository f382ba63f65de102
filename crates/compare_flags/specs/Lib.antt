-- The definitions of `compare_flags`.
pub mod Sides
