-- The laws of the cell, the taps and the weighted mean, a file for each subject.
pub mod CellFloor
pub mod CellLaws
pub mod InterpolationCode
pub mod SignedCode
pub mod TapsLaws
pub mod WeightedFinite
pub mod WeightedOpaque
pub mod WeightedWeights
