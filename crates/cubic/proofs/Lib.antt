-- The laws of the cubic weights, a file for each subject.
pub mod CubicBounds
pub mod CubicCode
pub mod CubicError
pub mod CubicExact
pub mod CubicExamples
pub mod CubicFormula
pub mod CubicKernel
pub mod CubicMove
pub mod CubicOrder
pub mod CubicPieces
pub mod CubicShape
pub mod Sizes
