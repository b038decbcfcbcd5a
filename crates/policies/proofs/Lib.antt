-- The laws of the policies, a file for each subject.
pub mod IndexCode
pub mod IndexLaws
pub mod NamedCode
pub mod NamedExamples
pub mod NamedLaws
