-- The definitions of `draw_floats`.
pub mod Answers
pub mod Draws
pub mod Said
pub mod Edges
