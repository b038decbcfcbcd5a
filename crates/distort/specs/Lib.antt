-- The definitions of the distort call.
pub mod Answer
pub mod Call
pub mod Job
pub mod Placed
pub mod Refusal
