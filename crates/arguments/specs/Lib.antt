-- What the caller's arguments are, and which of them are refused.
pub mod Method
pub mod Order
pub mod Store
pub mod Refusal
