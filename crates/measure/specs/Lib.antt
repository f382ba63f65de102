-- The definitions of `measure`.
pub mod IfDrawn
pub mod Cuts
pub mod Sizes
