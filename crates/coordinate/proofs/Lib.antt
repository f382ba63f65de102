-- The laws of `coordinate`.
pub mod Round
pub mod Laws
pub mod Fill
