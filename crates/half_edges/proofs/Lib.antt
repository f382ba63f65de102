-- The laws of `half_edges`.
pub mod Repeats
pub mod Forms
pub mod Lists
