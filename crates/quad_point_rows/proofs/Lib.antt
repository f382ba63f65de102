-- The laws that the proofs of `quad_point_rows` share.
mod Quads
