-- The laws of the names: comparing bytes with a name, searching a text of names, and how large a code is.
pub mod Equal
pub mod Search
pub mod Codes
