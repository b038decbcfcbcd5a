-- The definition of the test of samples.
pub mod Samples
