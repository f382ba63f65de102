pub mod Lines
pub mod Ties
pub mod Rule
pub mod Order
pub mod Strips
pub mod Reached
pub mod Mirror
pub mod Loop
