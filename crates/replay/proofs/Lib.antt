-- The law of what a replay compares.
pub mod SameLaws
