-- The laws that the proofs of `grid_indices` share.
mod Grids
