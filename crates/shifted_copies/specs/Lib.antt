-- The definitions of `shifted_copies`.
pub mod Copies
