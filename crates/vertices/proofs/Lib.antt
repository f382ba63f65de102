-- The laws that the proofs of the writers share.
pub mod Words
pub mod Loops
pub mod Parts
pub mod Edges
pub mod Rows
pub mod Middle
pub mod Laid
pub mod Raised
