-- The definitions of `grid_indices`.
pub mod Grids
