-- The laws of `draw_floats`.
mod Verdicts
mod Lists
mod Draws
pub mod Together
pub mod Floats
mod OnEdges
pub mod Edges
