-- The definitions of `third_demand`.
pub mod Written
pub mod Seams
pub mod ThirdDemand
