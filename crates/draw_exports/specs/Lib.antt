-- The definitions of `draw_exports`.
pub mod Calls
pub mod Exactly
