-- The Vulkan specification's chapter 23, Tessellation, section by section.
pub mod Members
pub mod Discard
pub mod Lengths
pub mod Spacing
pub mod Winding
pub mod Between
pub mod Triangles
pub mod Quads
pub mod Isolines
pub mod Chapter
