-- The value of a rounded fraction, with the sign asked for: where the result is finite it is `grid` units, a unit being
-- the format's smallest value. Provides: `round_under`, `round_has` (finite exactly where `grid` is below the overflow,
-- and then its value); `round_to_whole` (a fraction whose whole part has the digits that the format keeps). Assumes
-- nothing.
use mathlib.Core.Path.{◌≡◌, sym, ap, ◌∙◌, subst}
use Prim.Native.Nat.{ℕ, suc, ◌+◌, ◌-◌, ◌*◌, ◌^◌, ◌≤◌, ◌<◌}
use native.Mathlib.Nat.{
  le_trans,
  le_of_eq,
  le_of_lt,
  lt_of_lt_of_le,
  lt_of_le_of_lt,
  mul-one,
  mul_comm,
  mul_assoc,
  mul_right_comm,
  mul-pos,
  mul-le-mul_right,
  mul-lt-mul_of_pos_right,
}
use mathlib.Core.Bool.{Bool, true, false, cond}
use lib.Dec.{T, ltb, ltb→lt}
use lib.Pow.{pow-add, pow_pos, pow-lt}
use lib.Ieee.{Float, inf, Format, prec, low, odd, units, round}
use lib.Ieee.Exact.{HasValue, units_val}
use lib.Ieee.Fits.{round_is}
use lib.Ieee.Nearest.{closest, closest_same}
use lib.Ieee.Order.{drop, kept}
use lib.Ieee.Scale.{grid, overflow, finite}
use Rattle.exact.proofs.Closest.{closest_le}
use Rattle.exact.proofs.Formats.{prec_pos, whole_room}
use Rattle.exact.proofs.Ulp.{drop_is}
use Rattle.exact.proofs.Value.{rescale}

units_under : (f : Format) (s : Bool) (q k : ℕ) → T (finite (units f s q k)) → q * 2 ^ k < overflow f
unfolding units
units_under f s q k = go (ltb (q * 2 ^ k) (overflow f)) (ltb→lt (q * 2 ^ k) (overflow f))
  where
    go : (b : Bool) → (T b → q * 2 ^ k < overflow f) → T (finite (cond b (odd (suc (prec f)) s q k (low f)) (inf s)))
        → q * 2 ^ k < overflow f
    go true h t = h tt
    go false h t = absurd t

module _ (f : Format) (s : Bool) (a c : ℕ) where
  pub round_under : T (finite (round f s a c)) → grid f a c < overflow f
  round_under t = units_under f s (kept (prec f) (a * 2 ^ low f) c) (drop (prec f) (a * 2 ^ low f) c)
      (subst (λ (z : Float). T (finite z)) (round_is f s a c) t)

  pub round_has : grid f a c < overflow f → HasValue (round f s a c) s (grid f a c) (2 ^ low f)
  round_has h =
      subst (λ (z : Float). HasValue z s (grid f a c) (2 ^ low f)) (sym (round_is f s a c))
      (units_val f s (kept (prec f) (a * 2 ^ low f) c) (drop (prec f) (a * 2 ^ low f) c) h)
  -- ---- a / c is at most 2 ^ j units, and so is its rounded value

-- ---- the whole part of a / c has exactly the digits that the format keeps: all the digits below 1 are dropped, and no
-- others
module _ (f : Format) (s : Bool) (a c : ℕ) (C : 0 < c) (lo : 2 ^ (prec f - 1) * c ≤ a) (hi : a < 2 ^ prec f * c) where
  drop_low : drop (prec f) (a * 2 ^ low f) c ≡ low f
  drop_low = drop_is (prec f) (a * 2 ^ low f) c (prec_pos f) C (low f) least most
    where
      moved : (d : ℕ) → 2 ^ (d + low f) * c ≡ 2 ^ d * c * 2 ^ low f
      moved d = ap (λ (x : ℕ). x * c) (pow-add 2 d (low f)) ∙ mul_right_comm (2 ^ d) (2 ^ low f) c

      least : 2 ^ (prec f - 1 + low f) * c ≤ a * 2 ^ low f
      least = le_trans (le_of_eq (moved (prec f - 1))) (mul-le-mul_right (2 ^ low f) lo)

      most : a * 2 ^ low f < 2 ^ (prec f + low f) * c
      most = lt_of_lt_of_le (mul-lt-mul_of_pos_right hi (pow_pos (low f))) (le_of_eq (sym (moved (prec f))))

  round_whole : round f s a c ≡ units f s (closest a c) (low f)
  round_whole =
      round_is f s a c
      ∙ ap (λ (z : ℕ). units f s (closest (a * 2 ^ low f) (c * 2 ^ z)) z) drop_low
      ∙ ap (λ (z : ℕ). units f s z (low f))
      (closest_same (a * 2 ^ low f) (c * 2 ^ low f) a c (mul-pos C (pow_pos (low f))) C (mul_assoc a (2 ^ low f) c
      ∙ ap (λ (z : ℕ). a * z) (mul_comm (2 ^ low f) c)))

  pub round_to_whole : HasValue (round f s a c) s (closest a c) 1
  round_to_whole =
      rescale (round f s a c) s (closest a c * 2 ^ low f) (2 ^ low f) (closest a c) 1 (pow_pos (low f))
      (mul-one (closest a c * 2 ^ low f))
      (subst (λ (x : Float). HasValue x s (closest a c * 2 ^ low f) (2 ^ low f)) (sym round_whole)
      (units_val f s (closest a c) (low f)
      (lt_of_le_of_lt (mul-le-mul_right (2 ^ low f) (closest_le a c (2 ^ prec f) C (le_of_lt hi)))
      (lt_of_le_of_lt (le_of_eq (sym (pow-add 2 (prec f) (low f)))) (pow-lt (whole_room f))))))
