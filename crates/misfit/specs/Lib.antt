-- The definitions of the misfit.
pub mod Misfit
