-- The definitions of an interpolation, and of the ways for speed; what is said of the sampler's colours.
pub mod Finite
pub mod FourByFour
pub mod Interpolate
pub mod Opaque
pub mod Sampled
pub mod Sixteen
pub mod TwoByTwo
