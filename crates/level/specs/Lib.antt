-- The definitions of `level`.
pub mod Discard
pub mod Top
pub mod Clamp
pub mod Scale
pub mod Segments
pub mod Rounding
