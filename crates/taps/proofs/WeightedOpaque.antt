-- Four opaque taps with Bilinear's weights: a loop over four is the sums written out, and with every alpha 1 they are
-- the sums whose laws are known (exact). Provides: `four`, `summed_four`, `opaque_four` (the mean is these quotients),
-- `halfway` (an example). Assumes nothing.
use mathlib.Core.Path.{◌≡◌, refl, sym, ap, ◌∙◌, subst}
use mathlib.Core.Bool.{false, cond}
use mathlib.Core.List.{List, [], ◌∷◌}
use Prim.Native.Nat.{ℕ}
use lib.IntN.{ℤ}
use lib.Dec.{T}
use lib.Ieee.{Float, fin, add, sub, sum, mul, div, neg, round, of_bits, lt}
use Rattle.exact.specs.Loop.{up_to, turns}
use Rattle.exact.specs.Single.{◌⊗◌, ◌⊘◌}
use Rattle.exact.specs.Weighted.{w00, w10, w01, w11, four_sum, weight_sum, alpha_sum, colour_sum, colour, alpha, Unit32}
use Rattle.exact.proofs.Booleans.{yes_of}
use Rattle.exact.proofs.Ones.{positive_sign}
use Rattle.exact.proofs.Weighted.{alpha_sum_law, weight_sum_law}
use Rattle.number.specs.Magnitude.{abs}
use Rattle.picture.specs.Colour.{zero, half, one, grey}
use Rattle.taps.specs.Weighted.{nothing, added, least, quotient, mean, tap_at, weight_at, tap_sums, weighted}
use Rattle.picture.specs.declared.colour.Rgba.{Rgba}
use Rattle.taps.specs.declared.weighted.Sums.{Sums}

-- ---- the sums written out
abbrev pub four : Rgba → Rgba → Rgba → Rgba → Float → Float → Float → Float → Sums
four p q r s wp wq wr ws = added s ws (added r wr (added q wq (added p wp nothing)))

pub summed_four : (taps : List Rgba) (weights : List Float)
    → tap_sums taps weights 4 ≡ four (tap_at taps 0) (tap_at taps 1) (tap_at taps 2) (tap_at taps 3) (weight_at weights 0)
    (weight_at weights 1) (weight_at weights 2) (weight_at weights 3)
unfolding up_to turns
summed_four taps weights = refl

-- ---- the quotients
-- a divisor above the least is its own magnitude
over_positive : (x y : Float) → T (lt least y) → (m : ℕ) × (e : ℤ) × (y ≡ fin false m e) → quotient x y ≡ x ⊘ y
unfolding quotient abs
over_positive x y h (m, e, k) = ap (λ (z : Float). cond (lt least z) (x ⊘ y) zero) (ap abs k ∙ sym k)
    ∙ yes_of (lt least y) (x ⊘ y) zero h

module _ (tx ty : Float) (x : Unit32 tx) (y : Unit32 ty) where
  by_weight : (z : Float) → quotient z (weight_sum tx ty) ≡ z ⊘ weight_sum tx ty
  by_weight z = let w = weight_sum_law tx ty x y in
      over_positive z (weight_sum tx ty) w.1.1.1 (positive_sign (weight_sum tx ty) w.0 w.1.0)

  by_alpha : (z : Float) → quotient z (alpha_sum tx ty) ≡ z ⊘ alpha_sum tx ty
  by_alpha z = subst (λ (a : Float). quotient z a ≡ z ⊘ a) (sym (alpha_sum_law tx ty x y)) (by_weight z)

  module _ (p q r s : Rgba) (P : p.a ≡ one) (Q : q.a ≡ one) (R : r.a ≡ one) (S : s.a ≡ one) where
    abbrev sums : Sums
    sums = four p q r s (w00 tx ty) (w10 tx ty) (w01 tx ty) (w11 tx ty)

    alpha_is : sums.a ≡ alpha_sum tx ty
    unfolding added
    alpha_is = λ i. four_sum (w00 tx ty ⊗ P i) (w10 tx ty ⊗ Q i) (w01 tx ty ⊗ R i) (w11 tx ty ⊗ S i)

    -- one colour's sum
    colour_is : (a b c d : Float)
        → four_sum (w00 tx ty ⊗ a ⊗ p.a) (w10 tx ty ⊗ b ⊗ q.a) (w01 tx ty ⊗ c ⊗ r.a) (w11 tx ty ⊗ d ⊗ s.a)
        ≡ colour_sum tx ty a b c d
    colour_is a b c d = λ i. four_sum (w00 tx ty ⊗ a ⊗ P i) (w10 tx ty ⊗ b ⊗ Q i) (w01 tx ty ⊗ c ⊗ R i)
        (w11 tx ty ⊗ d ⊗ S i)

    one_colour : (z a b c d : Float) → z ≡ colour_sum tx ty a b c d → quotient z sums.a ≡ colour tx ty a b c d
    one_colour z a b c d h = (λ i. quotient (h i) (alpha_is i)) ∙ by_alpha (colour_sum tx ty a b c d)

    pub opaque_four : mean sums ≡ record {
      r = colour tx ty p.r q.r r.r s.r;
      g = colour tx ty p.g q.g r.g s.g;
      b = colour tx ty p.b q.b r.b s.b;
      a = alpha tx ty;
    }
    unfolding mean added
    opaque_four = λ i. record {
      r = one_colour sums.r p.r q.r r.r s.r (colour_is p.r q.r r.r s.r) i;
      g = one_colour sums.g p.g q.g r.g s.g (colour_is p.g q.g r.g s.g) i;
      b = one_colour sums.b p.b q.b r.b s.b (colour_is p.b q.b r.b s.b) i;
      a = (ap (λ (z : Float). quotient z (weight_sum tx ty)) alpha_is ∙ by_weight (alpha_sum tx ty)) i;
    }

-- ---- by example: halfway between an opaque white and a clear pixel
abbrev white : Rgba
white = grey one one

abbrev clear : Rgba
clear = grey zero zero

pub halfway : weighted (white ∷ clear ∷ white ∷ clear ∷ []) (w00 half zero ∷ w10 half zero ∷ w01 half zero
    ∷ w11 half zero ∷ []) 4 ≡ grey one half
unfolding weighted up_to turns mean added quotient abs lt add sub sum mul div neg round of_bits
halfway = refl
