-- The definitions of the cell, of the nine interpolations by their codes, of the taps, their weights and the weighted
-- mean.
pub mod Cell
pub mod Interpolation
pub mod Sampler
pub mod Taps
pub mod Weighted
pub mod Weights
