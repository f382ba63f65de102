-- The law that the proofs of `strip_walk` share.
mod Walks
