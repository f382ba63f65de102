-- The definitions of `indices`.
pub mod Isolines
