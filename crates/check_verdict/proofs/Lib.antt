-- The laws of `check_verdict`.
pub mod Chain
