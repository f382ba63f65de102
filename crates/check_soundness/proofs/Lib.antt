-- The laws of `check_soundness`, lowest first.
pub mod Beyond
pub mod Apex
pub mod Covers
pub mod Patches
pub mod Examples
pub mod Decides
pub mod Sides
pub mod PointTests
pub mod SideTests
pub mod Stages
pub mod Forward
pub mod Back
pub mod Named
pub mod Numbers
pub mod Verdicts
pub mod Accepted
pub mod Own
