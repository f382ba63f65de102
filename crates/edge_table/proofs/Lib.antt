-- The laws of `edge_table`; `Same` is used in this crate only.
pub mod StoredRows
mod Same
