-- The laws of pixels stored one after another, a file for each subject.
pub mod InnerLaws
pub mod JoinedLaws
pub mod LengthLaws
pub mod PixelLaws
pub mod RowLaws
