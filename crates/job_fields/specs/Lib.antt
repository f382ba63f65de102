-- The definitions of `job_fields`.
pub mod Bytes
pub mod Version
pub mod Settings
pub mod Tops
pub mod Levels
