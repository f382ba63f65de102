-- The definitions of `mesh_topology`: the triangles of patches by vertex number, and their sides.
pub mod Sides
pub mod Ring
pub mod Band
pub mod Nest
pub mod Quad
pub mod Closes
pub mod Lines
pub mod RingVertices
pub mod RingStrips
pub mod GridStrips
