-- The laws of numbers in bytes, a file for each subject.
pub mod BytesLaws
pub mod BytesParts
pub mod FloatBytes
pub mod Patterns
