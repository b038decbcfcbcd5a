-- The laws of the probes.
pub mod PointsLaws
pub mod RowsLaws
