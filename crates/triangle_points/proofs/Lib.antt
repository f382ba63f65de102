-- The laws that the proofs of `triangle_points` share.
mod Triangles
