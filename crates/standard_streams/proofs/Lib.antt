-- The laws of `standard_streams`.
pub mod Prefixes
pub mod Takes
pub mod Fills
