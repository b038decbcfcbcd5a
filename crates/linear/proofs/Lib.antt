-- The laws of the definitions, each file under its subject.
pub mod EliminateLaws
pub mod InvertLaws
pub mod NormalLaws
