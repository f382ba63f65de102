-- The definitions of `point_table`.
pub mod Trees
