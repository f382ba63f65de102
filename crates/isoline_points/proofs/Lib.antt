-- The laws that the proofs of `isoline_points` share.
mod Lines
