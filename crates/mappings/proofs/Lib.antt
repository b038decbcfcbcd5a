-- The laws of a mapping and of monomials, a file for each subject.
pub mod LoopLaws
pub mod MappingLaws
pub mod MonomialsLaws
pub mod PaddedLaws
pub mod TermsLaws
