-- The laws of usable points, and of points by their coordinates.
pub mod UsableLaws
pub mod WholeLaws
