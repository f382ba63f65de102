-- The laws of `check_searches`, lowest first.
pub mod First
pub mod Read
pub mod Lacks
pub mod Equal
