-- The definitions of matrices, their inverses, elimination and solution, a file for each module of src/.
pub mod Eliminate
pub mod Invert
pub mod Matrix
pub mod Normal
pub mod Solve
