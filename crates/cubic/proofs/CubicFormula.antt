-- The Rust's `cubic_weights` as it stands there, with its arithmetic on B and C. The printed table gives the same
-- weights to the bit: with 0 and 1/2 for `Catrom`, with 1 and 0 for `Spline`, the factors in brackets are exactly the
-- table's fourteen numbers. Provides: `formula_weights`, `table_is_formula`. Assumes nothing.
use mathlib.Core.Path.{◌≡◌, refl, ap, ◌∙◌}
use mathlib.Core.Bool.{cond}
use mathlib.Core.List.{List, [], ◌∷◌}
use lib.Ieee.{Float, binary32, neg, add, sub, sum, mul, round, of_bits, lt}
use Rattle.exact.specs.Single.{half, ◌⊕◌, ◌⊖◌, ◌⊗◌, ◌⊘◌}
use Rattle.number.specs.Magnitude.{abs}
use Rattle.cubic.specs.declared.cubic.CubicRow.{CubicRow}
use Rattle.cubic.specs.Cubic.{
  zero,
  one,
  two,
  six,
  eight,
  nine,
  twelve,
  twenty_four,
  catrom_row,
  spline_row,
  pieces,
  cubic_weights,
  catrom,
  spline,
}

-- ---- the formula
abbrev eighteen : Float
eighteen = of_bits binary32 0x4190_0000  -- 18.0

abbrev thirty : Float
thirty = of_bits binary32 0x41f0_0000  -- 30.0

abbrev forty_eight : Float
forty_eight = of_bits binary32 0x4240_0000  -- 48.0

abbrev near_formula : Float → Float → Float → Float
near_formula b c ax = (twelve ⊖ nine ⊗ b ⊖ six ⊗ c) ⊗ ax ⊗ ax ⊗ ax ⊕ (neg eighteen ⊕ twelve ⊗ b ⊕ six ⊗ c) ⊗ ax ⊗ ax
    ⊕ (six ⊖ two ⊗ b)

abbrev far_formula : Float → Float → Float → Float
far_formula b c ax = (neg b ⊖ six ⊗ c) ⊗ ax ⊗ ax ⊗ ax ⊕ (six ⊗ b ⊕ thirty ⊗ c) ⊗ ax ⊗ ax
    ⊕ (neg twelve ⊗ b ⊖ forty_eight ⊗ c) ⊗ ax ⊕ (eight ⊗ b ⊕ twenty_four ⊗ c)

abbrev formula : Float → Float → Float → Float
formula b c x = let ax = abs x in
    cond (lt ax one) (near_formula b c ax) (cond (lt ax two) (far_formula b c ax) zero) ⊘ six

abbrev pub formula_weights : Float → Float → Float → List Float
formula_weights t b c = formula b c (t ⊕ one) ∷ formula b c t ∷ formula b c (t ⊖ one) ∷ formula b c (t ⊖ two) ∷ []

-- ---- its factors in brackets, as a row. The formula above has them written out: its order of operations is its own,
-- not the table's.
abbrev row_of : Float → Float → CubicRow
row_of b c = record {
  near3 = twelve ⊖ nine ⊗ b ⊖ six ⊗ c;
  near2 = neg eighteen ⊕ twelve ⊗ b ⊕ six ⊗ c;
  near0 = six ⊖ two ⊗ b;
  far3 = neg b ⊖ six ⊗ c;
  far2 = six ⊗ b ⊕ thirty ⊗ c;
  far1 = neg twelve ⊗ b ⊖ forty_eight ⊗ c;
  far0 = eight ⊗ b ⊕ twenty_four ⊗ c;
}

row_weights : (t b c : Float) → cubic_weights t (row_of b c) ≡ formula_weights t b c
unfolding pieces
row_weights t b c = refl

catrom_row_law : catrom_row ≡ row_of zero half
unfolding add sub sum mul neg round of_bits
catrom_row_law = refl

spline_row_law : spline_row ≡ row_of one zero
unfolding add sub sum mul neg round of_bits
spline_row_law = refl

-- ---- the law, for every t
pub table_is_formula : (t : Float) → (catrom t ≡ formula_weights t zero half) × (spline t ≡ formula_weights t one zero)
table_is_formula t =
    (ap (cubic_weights t) catrom_row_law ∙ row_weights t zero half, ap (cubic_weights t) spline_row_law ∙ row_weights t one zero)
