-- The laws of `strip_writer`, which are used in this crate only.
mod Halves
