-- The laws of `job_fields`.
pub mod Words
pub mod Limits
pub mod Tops
