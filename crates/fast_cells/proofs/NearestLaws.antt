-- What is known of y = u - 0.5 + 0.5 where u passes the test of `Nearest`: its floor, and that u is far below 2^30,
-- since y would be 2^28 at least. Assumes nothing.
use mathlib.Core.Path.{◌≡◌, refl, sym, ap, ◌∙◌, subst}
use mathlib.Core.Logic.{inl, inr}
use mathlib.Core.Bool.{Bool, true, false, cond}
use Prim.Native.Nat.{ℕ, ◌+◌, ◌*◌, ◌≤◌, ◌<◌}
use native.Mathlib.Nat.{mul-pos, zero-lt-suc}
use native.Mathlib.Omega.{arith}
use lib.Dec.{T, lit≤}
use lib.IntN.{ℤ}
use lib.Ieee.{Float, nan, inf, fin, binary64, up, down, round, sum, add, sub, le, of_bits}
use lib.Ieee.Bits.{of_bits-fits}
use lib.Ieee.Exact.{HasValue}
use lib.Ieee.Fits.{down_pos, and_l, and_r}
use lib.Ieee.Order.{round_mono}
use lib.Ieee.Scale.{finite}
use Rattle.exact.specs.Double.{◌⊕◌, ◌⊖◌, usable_limit}
use Rattle.exact.specs.Fraction.{Fraction, value, ◌≤F◌, neg_f, ◌-F◌}
use Rattle.exact.specs.Warp.{half}
use Rattle.exact.proofs.Held.{round_held}
use Rattle.exact.proofs.Naturals.{lt_or_le}
use Rattle.exact.proofs.Monotone.{rounds_mono}
use Rattle.exact.proofs.Near.{add_mono, le_refl}
use Rattle.exact.proofs.Operands.{add_values}
use Rattle.exact.proofs.Operations.{add_rounds, sub_rounds}
use Rattle.exact.proofs.Signed.{le_value}
use Rattle.number.specs.Floor.{in_domain}
use Rattle.number.specs.Magnitude.{within}
use Rattle.number.proofs.MagnitudeLaws.{abs_limited}
use Rattle.taps.proofs.CellLaws.{reached_number, rounded_domain}
use Rattle.taps.proofs.CellFloor.{usable_reached}
use Rattle.fast_cells.specs.Inner.{nought, under, has_place, Low}
use Rattle.fast_cells.proofs.OrderLaws.{above, under_finite}
use Rattle.fast_cells.proofs.HalfLaws.{twice, twice_pos, half_over, large, large_value, large_less, less_half}
use Rattle.fast_cells.proofs.FlooredLaws.{
  Floored,
  floored_low,
  floored_any,
  not_far,
  within_is,
  zero_digits,
  low_nought,
}

-- ---- x + 0.5
more_half : (m : ℕ) (e : ℤ) → fin false m e ⊕ half ≡ round binary64 false (m * up e * 2 + down e) (down e * 2)
unfolding sum
more_half m e = add_values binary64 (fin false m e) half false false (m * up e * 2) (down e) (down e * 2) (twice_pos e)
    (twice m e) (half_over (down e))

abbrev wide : Float
wide = of_bits binary64 0x41b0_0000_0000_0000  -- 2^28

wide_value : HasValue wide false 268435456 1
wide_value = unfold of_bits in (refl, refl)

-- 2^29 at least, and 0.5
wide_more : (a d : ℕ) → 0 < d → 536870912 * d ≤ a * 1 → T (le wide (round binary64 false (a * 2 + d) (d * 2)))
wide_more a d D h =
    subst (λ (y : Float). T (le y (round binary64 false (a * 2 + d) (d * 2))))
    (round_held binary64 wide false 268435456 1 (zero-lt-suc 0) (of_bits-fits binary64 0x41b0_0000_0000_0000)
    wide_value)
    (round_mono binary64 268435456 1 (a * 2 + d) (d * 2) (zero-lt-suc 0) (mul-pos D (zero-lt-suc 1)) (far a d h))
  where
    far : (a d : ℕ) → 536870912 * d ≤ a * 1 → 268435456 * (d * 2) ≤ (a * 2 + d) * 1
    far a d h = omega arith

-- ---- y is not negative where u is not: both roundings keep the order, and 0 - 0.5 + 0.5 is 0
sub_order : (a b c : Fraction) → a ≤F b → a -F c ≤F b -F c
unfolding ◌-F◌
sub_order a b c h = add_mono a b (neg_f c) (neg_f c) h (le_refl (neg_f c) (neg_f c))

domain_number : (x : Float) → T (in_domain x) → T (finite x)
unfolding in_domain
domain_number nan d = d
domain_number (inf s) d = d
domain_number (fin s m e) d = tt

not_below : (u : Float) → T (le nought u) → T (within usable_limit u) → T (le nought (u ⊖ half ⊕ half))
unfolding within
not_below u l w =
    let x = u ⊖ half in
    let n = abs_limited u usable_limit (unfold of_bits in tt) w in
    let reached = usable_reached u w in
    let m = reached_number x reached in
    let y = domain_number (x ⊕ half) (rounded_domain x reached) in
    let first = rounds_mono (sub_rounds binary64 nought half zero_number half_number)
    (sub_rounds binary64 u half n half_number) less_number m
    (sub_order (value nought) (value u) (value half) ((le_value nought u zero_number n).0 l)) in
    (le_value nought (x ⊕ half) zero_number y).1
    (subst (λ (z : Float). value z ≤F value (x ⊕ half)) back
    (rounds_mono (add_rounds binary64 (nought ⊖ half) half less_number half_number)
    (add_rounds binary64 x half m half_number) (subst (λ (z : Float). T (finite z)) (sym back) zero_number) y
    (add_mono (value (nought ⊖ half)) (value x) (value half) (value half) first (le_refl (value half) (value half)))))
  where
    zero_number : T (finite nought)
    zero_number = unfold of_bits in tt

    half_number : T (finite half)
    half_number = unfold of_bits in tt

    less_number : T (finite (nought ⊖ half))
    less_number = unfold sub of_bits in tt

    back : nought ⊖ half ⊕ half ≡ nought
    back = unfold add sub of_bits in refl

-- ---- u that passes the test
module _ (reach : ℕ) (R : reach ≤ 65536) where
  -- an infinity passes no test
  endless : {x : Float} → x ≡ inf false → T (under reach (x ⊕ half)) → ⊥
  endless e h = under_finite reach R
      (subst (λ (y : Float). T (under reach y)) (ap (λ (x : Float). x ⊕ half) e ∙ stays) h)
    where
      stays : inf false ⊕ half ≡ inf false
      stays = unfold add of_bits in refl

  from_large : (x : Float) → T (le large x) → T (under reach (x ⊕ half)) → ⊥
  from_large x l h = elim (above 536870912 1 large x (zero-lt-suc 536870911) (zero-lt-suc 0) large_value l) [
    | inl e ↦ endless e h
    | inr a ↦
        not_far reach R 268435456 wide (lit≤ tt) wide_value (x ⊕ half)
        (subst (λ (y : Float). T (le wide y))
        (sym (ap (λ (x : Float). x ⊕ half) a.is ∙ more_half a.digits a.place))
        (wide_more (a.digits * up a.place) (down a.place) (down_pos a.place) a.least)) h
  ]

  near : (u : Float) → T (le nought u) → T (under reach (u ⊖ half ⊕ half)) → T (within usable_limit u)
  near nan l h = absurd (unfold le of_bits in l)
  near (inf true) l h = absurd (unfold le of_bits in l)
  near (inf false) l h = absurd (endless stays h)
    where
      stays : inf false ⊖ half ≡ inf false
      stays = unfold sub of_bits in refl
  near (fin true m e) l h = within_is true m e (none (m * up e) (1073741824 * down e) (zero_digits m e l))
    where
      none : (a b : ℕ) → a ≡ 0 → a ≤ b
      none a b z = omega arith
  near (fin false m e) l h = within_is false m e (elim (lt_or_le (1073741824 * down e) (m * up e)) [
    | inl g ↦ absurd (from_large (fin false m e ⊖ half)
        (subst (λ (x : Float). T (le large x)) (sym (less_half m e (half_below (m * up e) (down e) g)))
        (large_less (m * up e) (down e) (down_pos e) g)) h)
    | inr g ↦ g
  ])
    where
      half_below : (a d : ℕ) → 1073741824 * d < a → d ≤ a * 2
      half_below a d h = omega arith

  module _ (u : Float) (h : T (has_place reach u)) where
    from : T (le nought u)
    from = and_l (le nought u) (under reach (u ⊖ half ⊕ half)) h

    below : T (under reach (u ⊖ half ⊕ half))
    below = and_r (le nought u) (under reach (u ⊖ half ⊕ half)) h

    pub nearby_usable : T (within usable_limit u)
    nearby_usable = near u from below

    pub nearby_floored : Floored reach (u ⊖ half ⊕ half)
    nearby_floored = floored_any reach R (u ⊖ half ⊕ half) (not_below u from nearby_usable) below

  -- ---- what is worked with in any case
  pub beside_in : (u : Float) {b : Bool} → b ≡ has_place reach u → b ≡ true
      → (u ⊖ half ⊕ half ≡ cond (has_place reach u) (u ⊖ half ⊕ half) nought) × Low (u ⊖ half ⊕ half)
  beside_in u i h =
      let e = sym i ∙ h in (
        sym (ap (λ (b : Bool). cond b (u ⊖ half ⊕ half) nought) e),
        floored_low reach R (nearby_floored u (subst T (sym e) tt)),
      )

pub beside_out : (reach : ℕ) (u : Float) {b : Bool} → b ≡ has_place reach u → b ≡ false
    → (nought ≡ cond (has_place reach u) (u ⊖ half ⊕ half) nought) × Low nought
beside_out reach u i h = (sym (ap (λ (b : Bool). cond b (u ⊖ half ⊕ half) nought) (sym i ∙ h)), low_nought)
