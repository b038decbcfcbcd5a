-- What a replay compares.
pub mod Same
