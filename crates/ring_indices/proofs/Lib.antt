-- The laws of bands, for other crates; `Rings` and `Nests` are used in this crate only.
mod Rings
pub mod Bands
mod Nests
