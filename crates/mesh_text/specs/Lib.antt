-- The definitions of `mesh_text`.
pub mod Widths
pub mod Lists
