-- The laws of `tessellate`.
pub mod Draws
mod Drawing
pub mod Together
