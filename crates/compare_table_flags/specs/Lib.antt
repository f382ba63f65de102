-- The definitions of partners and flags.
pub mod Flags
