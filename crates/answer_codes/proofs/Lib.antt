-- The laws of `answer_codes`.
pub mod Drew
pub mod Exactly
