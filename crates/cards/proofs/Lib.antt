-- The trial cards, proved.
pub mod CardsRight
