-- The definitions of the exported calls.
pub mod Answer
pub mod Called
