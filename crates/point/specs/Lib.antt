-- The definitions of a source point, and of a loop that ends with one.
pub mod Course
pub mod Point
