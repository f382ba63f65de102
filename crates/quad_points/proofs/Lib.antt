-- The laws that the proofs of `quad_points` share.
mod Quads
