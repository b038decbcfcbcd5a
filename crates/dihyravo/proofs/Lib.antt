-- The laws of the exported calls.
pub mod EntryLaws
pub mod RowsOfTheWarp
