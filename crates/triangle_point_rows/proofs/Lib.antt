-- The laws of rings, for the crates above.
pub mod Rings
mod Eights
mod Wide
