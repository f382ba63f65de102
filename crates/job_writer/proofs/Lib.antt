-- The laws of `job_writer`.
pub mod Has
pub mod SettingBytes
pub mod LevelBytes
pub mod Tops
pub mod Headers
pub mod RoundTrip
pub mod WholeFiles
pub mod Answered
pub mod Rewritten
