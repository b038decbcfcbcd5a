-- The laws of a span inside, a file for each subject.
pub mod BesideLaws
pub mod CoverLaws
pub mod FourLaws
pub mod InsideSpanLaws
pub mod NumberLaws
