-- The laws of `tsr_pieces`.
pub mod Countings
