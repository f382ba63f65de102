-- The laws of `share_words`.
pub mod Back
