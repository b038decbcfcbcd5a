-- The laws of the window, each file under its subject.
pub mod CeilLaws
pub mod DifferenceLaws
pub mod EdgeLaws
pub mod Examples
pub mod HalfLaws
pub mod ExtentLaws
pub mod WindowLaws
