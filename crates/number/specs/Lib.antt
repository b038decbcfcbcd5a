-- The definitions of the number tools, a file for each module of src/.
pub mod Floor
pub mod Magnitude
pub mod Narrow
pub mod Root
pub mod Wrapping
