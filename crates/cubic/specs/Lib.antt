-- The definitions of the cubic weights: the code's in Cubic, the formula of 1988 in Mitchell.
pub mod Bounded
pub mod Cubic
pub mod Mitchell
