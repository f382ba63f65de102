-- The definitions of `check_words`.
pub mod Founds
