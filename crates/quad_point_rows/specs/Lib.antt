-- The definitions of `quad_point_rows`.
pub mod Parts
