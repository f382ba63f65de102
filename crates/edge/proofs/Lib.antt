-- The laws of positions, of their rows and of `table`, for other crates; `Outward` and `Carries` are used in this crate only.
pub mod Table
pub mod Entries
pub mod Ends
pub mod Mirrored
pub mod Rises
pub mod Near
pub mod Reach
pub mod Rows
mod Outward
mod Carries
