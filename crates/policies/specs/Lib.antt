-- The definitions of the policies, a file for each module of src/.
pub mod Index
pub mod Named
pub mod Random
