-- The definitions of `drawn_calls`.
pub mod Written
pub mod Edges
pub mod Discards
