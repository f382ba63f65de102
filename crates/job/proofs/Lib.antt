-- The laws of `job`.
pub mod Numbers
pub mod Marks
pub mod Headers
pub mod Records
pub mod Files
pub mod VersionOne
