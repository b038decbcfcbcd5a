-- The laws, each file under its subject.
pub mod PartsLaws
