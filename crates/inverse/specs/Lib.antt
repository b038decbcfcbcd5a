-- The definitions of the source points, a file for each method.
pub mod Affine
pub mod Barrel
pub mod Forward
pub mod Frame
pub mod Inverse
pub mod Perspective
pub mod Polynomial
pub mod Shepards
