-- The laws of pixels, of the pixel at an index, of a stored colour and of the tests of size, a file for each subject.
pub mod AtLaws
pub mod LimitedLaws
pub mod PixelCode
pub mod SizeLaws
pub mod StoreLaws
