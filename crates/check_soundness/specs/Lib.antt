-- The definitions of `check_soundness`.
pub mod Sound
pub mod Checks
pub mod Firsts
pub mod Numbers
pub mod Answers
pub mod Means
pub mod Covered
