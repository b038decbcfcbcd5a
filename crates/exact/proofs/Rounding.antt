-- What `round` gives, as a fraction: where the result is finite it is `grid` units with the sign asked for, a unit
-- being the format's smallest value, so that each law of rounding is one about whole numbers (Ulp). Provides:
-- `round_finite` (where `grid` is below the overflow; RoundedValue has the converse), `round_value`, `round_sized`;
-- `round_fixed` (exact where the format holds the value). Assumes nothing.
use mathlib.Core.Path.{◌≡◌, sym, ap, ◌∙◌, subst}
use mathlib.Core.Logic.{inl, inr}
use mathlib.Core.Bool.{Bool}
use Prim.Native.Nat.{ℕ, ◌+◌, ◌*◌, ◌^◌, ◌≤◌, ◌<◌}
use native.Mathlib.Nat.{eq-or-lt_of_le, one-mul}
use lib.Dec.{T}
use lib.Pow.{pow-add, pow_pos, pow-lt}
use lib.Ieee.{Format, prec, low, round}
use lib.Ieee.Exact.{HasValue, round_exact}
use lib.Ieee.Scale.{grid, overflow, finite}
use Rattle.exact.specs.Fraction.{value, ◌≈◌}
use Rattle.exact.specs.Rounds.{signed_f}
use Rattle.exact.proofs.Near.{eq_sym}
use Rattle.exact.proofs.Formats.{prec_pos}
use Rattle.exact.proofs.Magnitude.{Sized, sized_same}
use Rattle.exact.proofs.RoundedValue.{round_under, round_has}
use Rattle.exact.proofs.Signed.{has_value, has_finite}

module _ (f : Format) (s : Bool) (a c : ℕ) where
  pub round_finite : grid f a c < overflow f → T (finite (round f s a c))
  round_finite h = has_finite (round f s a c) s (grid f a c) (2 ^ low f) (round_has f s a c h)

  pub round_value : T (finite (round f s a c)) → value (round f s a c) ≈ signed_f s (grid f a c) (2 ^ low f)
  round_value t = has_value (round f s a c) s (grid f a c) (2 ^ low f) (pow_pos (low f))
      (round_has f s a c (round_under f s a c t))

  pub round_sized : T (finite (round f s a c)) → Sized (2 ^ low f) (value (round f s a c)) s (grid f a c)
  round_sized t =
      sized_same s (grid f a c) (2 ^ low f) (pow_pos (low f))
      (eq_sym (value (round f s a c)) (signed_f s (grid f a c) (2 ^ low f)) (round_value t))

-- ---- exact: a / c is q * 2 ^ j units, with no more digits in q than the format keeps
pub round_fixed : (f : Format) (s : Bool) (a c q j : ℕ) → 0 < c → q ≤ 2 ^ prec f → q * 2 ^ j < overflow f
    → a * 2 ^ low f ≡ q * 2 ^ j * c
    → T (finite (round f s a c)) × (value (round f s a c) ≈ signed_f s a c)
round_fixed f s a c q j C Q O e =
    let v : HasValue (round f s a c) s a c =
    elim (eq-or-lt_of_le Q) [ inl h ↦ top h | inr h ↦ round_exact f s a c q j C h O e ] in
    (has_finite (round f s a c) s a c v, has_value (round f s a c) s a c C v)
  where
    -- 2 ^ prec times 2 ^ j is one digit
    one : q ≡ 2 ^ prec f → q * 2 ^ j ≡ 1 * 2 ^ (prec f + j)
    one h = ap (λ (z : ℕ). z * 2 ^ j) h ∙ sym (pow-add 2 (prec f) j) ∙ sym (one-mul (2 ^ (prec f + j)))

    top : q ≡ 2 ^ prec f → HasValue (round f s a c) s a c
    top h =
        round_exact f s a c 1 (prec f + j) C (pow-lt (prec_pos f)) (subst (λ (z : ℕ). z < overflow f) (one h) O) (e
        ∙ ap (λ (z : ℕ). z * c) (one h))
