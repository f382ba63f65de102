-- The definitions of `check_faults`.
pub mod Inside
pub mod Turns
pub mod JudgedMesh
pub mod Judged
pub mod Outline
