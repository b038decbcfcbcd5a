-- The definitions of the cells of a span: what is worked out (Cells), and what its parts ask of a number (Inner).
pub mod Cells
pub mod Inner
