-- The trial cards.
pub mod Cards
