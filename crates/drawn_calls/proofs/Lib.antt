-- The laws of `drawn_calls`.
pub mod Edges
pub mod Words
pub mod Demand
pub mod Chapter
pub mod Accepted
