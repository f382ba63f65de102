pub mod Triangles
pub mod Lines
pub mod Rule
pub mod Strips
pub mod Mirror
pub mod Loop
