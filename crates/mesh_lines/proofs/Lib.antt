-- The law that the proofs of `mesh_lines` share.
mod Listed
