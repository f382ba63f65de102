-- The definitions of `mesh_geometry`.
pub mod Cover
pub mod Held
pub mod EitherTurn
pub mod Seam
pub mod Edge
pub mod Words
pub mod Faces
pub mod TrianglePoints
pub mod QuadPoints
pub mod Domain
pub mod OnEdge
pub mod OuterRing
pub mod RingPoints
pub mod GridPoints
pub mod Segmented
