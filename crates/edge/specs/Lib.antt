-- The definitions of `edge`.
pub mod Positions
pub mod Near
pub mod Table
pub mod Rows
pub mod Carries
