-- What is known of u that passes the test: it can be used, and u - 0.5 has a floor below `reach` and a short part
-- beyond it. Assumes nothing.
use mathlib.Core.Path.{◌≡◌, refl, sym, ap, ◌∙◌, subst}
use mathlib.Core.Logic.{◌⊎◌, inl, inr}
use mathlib.Core.Bool.{Bool, true, false, cond}
use Prim.Native.Nat.{ℕ, ◌-◌, ◌*◌, ◌≤◌}
use native.Mathlib.Nat.{zero-lt-suc}
use lib.Dec.{T, lit≤}
use lib.IntN.{ℤ}
use lib.Ieee.{Float, inf, fin, binary64, up, down, sub, le, of_bits, fits}
use lib.Ieee.Fits.{down_pos, sub-fits, and_l, and_r}
use Rattle.exact.specs.Double.{◌⊖◌, usable_limit}
use Rattle.exact.specs.Warp.{half}
use Rattle.exact.proofs.Naturals.{lt_or_le}
use Rattle.number.specs.Magnitude.{within}
use Rattle.fast_cells.specs.Inner.{nought, under, has_cell, Low, Parted}
use Rattle.fast_cells.proofs.OrderLaws.{Above, above, under_finite}
use Rattle.fast_cells.proofs.HalfLaws.{
  half_value,
  twice_pos,
  less_half,
  once,
  tiny,
  round_from_zero,
  coarse,
  large,
  large_value,
  large_less,
}
use Rattle.fast_cells.proofs.FlooredLaws.{within_is, low_nought, Floored, floored_low, floored_any, not_far}
use Rattle.fast_cells.proofs.PartedLaws.{parted_nought, later_parted}

module _ (reach : ℕ) (R : reach ≤ 65536) where
  -- ---- u that passes the test, and x = u - 0.5
  -- an infinity passes no test
  endless : {u : Float} → u ≡ inf false → T (under reach (u ⊖ half)) → ⊥
  endless e h = under_finite reach R
      (subst (λ (x : Float). T (under reach x)) (ap (λ (u : Float). u ⊖ half) e ∙ stays) h)
    where
      stays : inf false ⊖ half ≡ inf false
      stays = unfold sub of_bits in refl

  module _ (u : Float) (h : T (has_cell reach u)) where
    at_least : (u ≡ inf false) ⊎ Above 1 2 u
    at_least = above 1 2 half u (zero-lt-suc 0) (zero-lt-suc 1) half_value
        (and_l (le half u) (under reach (u ⊖ half)) h)

    below : T (under reach (u ⊖ half))
    below = and_r (le half u) (under reach (u ⊖ half)) h

    pub parted_of : T (fits binary64 u) → Parted (u ⊖ half)
    parted_of t = elim at_least [
      | inl e ↦ absurd (endless e below)
      | inr a ↦ elim (coarse a.digits a.place (subst (λ (y : Float). T (fits binary64 y)) a.is t) a.least) [
        | inl z ↦ subst (λ (x : Float). Parted x) (sym (ap (λ (y : Float). y ⊖ half) a.is ∙ z)) parted_nought
        | inr l ↦ later_parted reach R (u ⊖ half) (sub-fits binary64 u half)
            (subst (λ (y : Float). T (le tiny (y ⊖ half))) (sym a.is) l) below
      ]
    ]

    pub floored_of : Floored reach (u ⊖ half)
    floored_of = elim at_least [
      | inl e ↦ absurd (endless e below)
      | inr a ↦ floored_any reach R (u ⊖ half)
          (subst (λ (y : Float). T (le nought (y ⊖ half))) (sym a.is) (from_zero a.digits a.place a.least))
          below
    ]
      where
        from_zero : (m : ℕ) (e : ℤ) → 1 * down e ≤ m * up e * 2 → T (le nought (fin false m e ⊖ half))
        from_zero m e l =
            subst (λ (x : Float). T (le nought x)) (sym (less_half m e (once (down e) (m * up e * 2) l)))
            (round_from_zero (m * up e * 2 - down e) (down e * 2) (twice_pos e))

    -- far from 2^30, or x would be 2^29 at least
    pub usable_of : T (within usable_limit u)
    usable_of = elim at_least [
      | inl e ↦ absurd (endless e below)
      | inr a ↦ subst (λ (y : Float). T (within usable_limit y)) (sym a.is)
          (near a.digits a.place a.least (subst (λ (y : Float). T (under reach (y ⊖ half))) a.is below))
    ]
      where
        near : (m : ℕ) (e : ℤ) → 1 * down e ≤ m * up e * 2 → T (under reach (fin false m e ⊖ half))
            → T (within usable_limit (fin false m e))
        near m e l b = within_is false m e (elim (lt_or_le (1073741824 * down e) (m * up e)) [
          | inl g ↦ absurd (not_far reach R 536870912 large (lit≤ tt) large_value (fin false m e ⊖ half)
              (subst (λ (x : Float). T (le large x)) (sym (less_half m e (once (down e) (m * up e * 2) l)))
              (large_less (m * up e) (down e) (down_pos e) g)) b)
          | inr g ↦ g
        ])

  -- ---- what is worked with in any case
  pub kept_in : (u : Float) {b : Bool} → T (fits binary64 u) → b ≡ has_cell reach u → b ≡ true
      → (u ⊖ half ≡ cond (has_cell reach u) (u ⊖ half) nought) × (Low (u ⊖ half) × Parted (u ⊖ half))
  kept_in u t i h =
      let e = sym i ∙ h in
      let test : T (has_cell reach u) = subst T (sym e) tt in (
        sym (ap (λ (b : Bool). cond b (u ⊖ half) nought) e),
        (floored_low reach R (floored_of u test), parted_of u test t),
      )

pub kept_out : (reach : ℕ) (u : Float) {b : Bool} → b ≡ has_cell reach u → b ≡ false
    → (nought ≡ cond (has_cell reach u) (u ⊖ half) nought) × (Low nought × Parted nought)
kept_out reach u i h = (sym (ap (λ (b : Bool). cond b (u ⊖ half) nought) (sym i ∙ h)), (low_nought, parted_nought))
