-- The laws of the source points, a file for each subject. Other crates cite those of WholePoints.
pub mod BarrelExample
pub mod ForwardLaws
pub mod PolynomialLaws
pub mod ShepardsLaws
pub mod WholePoints
