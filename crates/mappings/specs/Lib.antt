-- The definitions of a mapping, of its padded coefficients, and of monomials, pairs and rows.
pub mod Mapping
pub mod Monomials
pub mod Padded
pub mod Pairs
pub mod Rows
