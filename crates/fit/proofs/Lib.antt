-- The laws of the fit and of `build`, each file under its subject.
pub mod BuildLaws
pub mod CountLaws
pub mod DegenerateLaws
pub mod FitLaws
pub mod OrientLaws
