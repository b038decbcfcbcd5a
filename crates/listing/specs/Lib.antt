-- The definitions of the listing, a file for each module of src/.
pub mod Answer
pub mod Names
pub mod Print
pub mod Reader
pub mod Text
pub mod Word
