-- The laws of `tsj_pieces`, lowest first.
pub mod Headers
pub mod Texts
pub mod Chunks
