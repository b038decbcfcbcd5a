-- The laws of the listing. `Printed` has what they come to: what is printed for every text. `ReadBack` and `OnlyThese`
-- are its two halves.
pub mod EndLaws
pub mod Fed
pub mod FormLaws
pub mod KeptLaws
pub mod LargeLaws
pub mod LineForm
pub mod NamesLaws
pub mod NumeralLaws
pub mod OnlyThese
pub mod OrderLaws
pub mod OrderTests
pub mod PairLaws
pub mod PixelsLaws
pub mod PrintLaws
pub mod Printed
pub mod ReadBack
pub mod WordForm
