-- The laws of `job_bytes`.
pub mod Floats
pub mod LowBytes
pub mod Lengths
