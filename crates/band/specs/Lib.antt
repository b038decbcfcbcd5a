-- The definition of the band: rows of output pixels in bytes.
pub mod Band
pub mod Image
pub mod Joined
