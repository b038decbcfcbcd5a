-- The laws of the distort call.
pub mod AcceptedLaws
pub mod BandLaws
pub mod BandSamples
pub mod CallLaws
pub mod DistortLaws
pub mod JobLaws
pub mod LargeLaws
pub mod PlacedLaws
pub mod RowsOfTheWarp
pub mod SampleLaws
pub mod ViewLaws
pub mod Witness
