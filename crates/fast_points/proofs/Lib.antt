-- The laws of lists that a loop fills, and of the source points of a span.
pub mod BarrelLaws
pub mod FillLaws
pub mod PointsLaws
