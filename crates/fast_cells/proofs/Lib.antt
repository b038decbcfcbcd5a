-- The laws of the cells, a file for each subject.
pub mod OrderLaws
pub mod HalfLaws
pub mod FlooredLaws
pub mod PartedLaws
pub mod InnerLaws
pub mod NearestLaws
pub mod ShortLaws
pub mod TestLaws
pub mod CellsLaws
pub mod PlacesLaws
