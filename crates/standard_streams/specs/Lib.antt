-- The definitions of `standard_streams`.
pub mod Moved
