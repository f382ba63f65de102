-- The laws of the chapter, lowest first.
pub mod Floors
pub mod Lengths
pub mod Spacing
pub mod Discard
pub mod Winding
pub mod Between
pub mod Outline
pub mod Triangles
pub mod Quads
pub mod Isolines
pub mod Drawn
pub mod Together
