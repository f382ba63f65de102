-- The laws that the proofs of `indices` share.
mod Quads
mod Isolines
