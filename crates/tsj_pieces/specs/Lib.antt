-- The definitions of `tsj_pieces`.
pub mod Headers
pub mod Chunks
