-- The definitions of the fit and of `Mapping::build`.
pub mod Affine
pub mod Barrel
pub mod Build
pub mod Fit
pub mod Orient
pub mod Perspective
pub mod Polynomial
pub mod Shepards
