-- `picture::pixel::sample` meets its contract: what is at most the pattern of 65,536 is no NaN's.
use native.Mathlib.Nat.{le_trans}
use borrow.Author.Rules.{rules}
use lib.Dec.{lit≤}
use Rattle.picture.proofs.pixel.sample.Goals as goal

pub f32_number_at-requires : goal.f32_number_at-requires
f32_number_at-requires c = record { at_in_bounds = search rules; no_nan_at = le_trans (c.requires.1.sample c.args.k c.requires.0) (lit≤ tt) }
