-- The definitions of `half_edges`.
pub mod Tables
pub mod Opens
