-- The laws of `point_table`.
pub mod Trees
