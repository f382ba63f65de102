-- The definitions of `patch_mesh`.
pub mod Valid
pub mod Points
pub mod Primitives
pub mod Coordinates
pub mod Counts
pub mod Demand
pub mod Inside
pub mod InPatch
pub mod Levels
pub mod Sizes
pub mod Starred
pub mod Sample
pub mod Kept
pub mod OuterEdges
