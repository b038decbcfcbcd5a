-- The laws of the arguments. Other crates cite AcceptedLaws for what holds where no refusal applies, StoreLaws for the
-- store's numbers and OrderLaws for degrees and terms.
pub mod AcceptedLaws
pub mod CodeLaws
pub mod CountLaws
pub mod NumberLaws
pub mod OrderLaws
pub mod StoreLaws
pub mod Witness
