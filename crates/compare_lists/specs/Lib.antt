-- The definitions of `compare_lists`.
pub mod Words
