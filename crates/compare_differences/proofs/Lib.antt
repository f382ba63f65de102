-- The laws of `compare_differences`, lowest first.
pub mod Tests
pub mod Finds
pub mod Numbers
pub mod Lacks
