-- The definitions of `bestfit` and of the window.
pub mod Bestfit
pub mod Ceil
pub mod Corners
pub mod Edges
pub mod Extent
pub mod Placed
pub mod View
pub mod Window
