-- The laws of `compare_table_flags`.
pub mod Tables
