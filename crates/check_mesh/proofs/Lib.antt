-- The laws of `check_mesh`.
pub mod Arms
