-- The definitions of a span of source points, and of the steps to the barrels'.
pub mod Barrels
pub mod Points
