-- The words that the crates' definitions are written in, and that the bounds need. No pictures here.
pub mod Blend
pub mod Double
pub mod Each
pub mod Fraction
pub mod Limits
pub mod Loop
pub mod Power
pub mod Rounds
pub mod Single
pub mod Sums
pub mod Surface
pub mod Table
pub mod Vector
pub mod Warp
pub mod Weighted
