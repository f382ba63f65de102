-- The definitions of `share_words`.
pub mod Words
pub mod Memory
