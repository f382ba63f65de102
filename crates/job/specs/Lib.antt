-- The definitions of `job`.
pub mod Header
pub mod Patches
pub mod Records
