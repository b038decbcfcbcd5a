-- The definitions of numbers in bytes.
pub mod Bytes
