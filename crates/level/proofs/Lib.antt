-- The laws of `level`, beyond the contracts.
pub mod Order
pub mod Top
pub mod Within
pub mod Sides
pub mod Scale
pub mod Rounding
pub mod Valid
pub mod Discard
pub mod Exact
