-- The definitions of a span inside, and of four samples at a time.
pub mod Broad
pub mod InsideSpan
