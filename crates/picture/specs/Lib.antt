-- The definitions of pixels, of the pixel at an index, of a stored colour and of the tests of size.
pub mod At
pub mod Colour
pub mod Pixel
pub mod Size
pub mod Store
