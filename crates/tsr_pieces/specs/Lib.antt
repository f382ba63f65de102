-- The definitions of `tsr_pieces`.
pub mod Pieces
