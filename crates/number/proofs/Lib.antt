-- The laws of the number tools, a file for each subject. Other crates cite the `..Laws`.
pub mod FloorCode
pub mod FloorLaws
pub mod FloorNear
pub mod FloorRound
pub mod FloorValue
pub mod MagnitudeLaws
pub mod MagnitudeTests
pub mod NarrowBits
pub mod NarrowLaws
pub mod NarrowLow
pub mod NarrowNormal
mod RootCases
mod RootDigits
pub mod RootLaws
mod RootNear
pub mod RootNumbers
mod RootPositive
mod RootScale
mod RootSettle
mod RootValue
pub mod RootWhole
