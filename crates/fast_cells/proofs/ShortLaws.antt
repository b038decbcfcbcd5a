-- Rounding 29 digits off the pattern of a short number leaves the pattern of the f32 next to it, still as an f64: both
-- patterns stand for one value. Assumes nothing.
use mathlib.Core.Path.{◌≡◌, refl, sym, ap, ◌∙◌, subst}
use mathlib.Core.Logic.{inl, inr}
use mathlib.Core.Bool.{Bool, false, not, ◌&&◌}
use Prim.Native.Nat.{ℕ, suc, ◌+◌, ◌-◌, ◌*◌, ◌/◌, ◌%◌, ◌^◌, ◌≤◌, ◌<◌}
use native.Mathlib.Nat.{zero-add, le_trans, le_of_eq, mod-le, zero-lt-suc}
use native.Mathlib.Omega.{arith}
use lib.Dec.{T, leb→le, lit≤, lit<}
use lib.Pow.{pow-add, pow_pos}
use lib.IntN.{ℤ}
use lib.Ieee.{Float, nan, inf, fin, Format, binary32, binary64, low, top, of_bits, to_bits, fits, is_nan, nan_bits, le}
use lib.Ieee.Bits.{of_bits-to_bits, of_bits-fits, nan_bits_is}
use lib.Ieee.Fits.{and_i}
use lib.Ieee.Exact.{HasValue}
use lib.Ieee.Nearest.{closest}
use Rattle.exact.proofs.Closest.{closest_le, closest_ge}
use Rattle.exact.proofs.FloatPatterns.{finite_bits}
use Rattle.exact.proofs.Formats.{infinite}
use Rattle.exact.proofs.Patterns.{lead, worth, pattern_value, pattern_number}
use Rattle.exact.proofs.PatternOrder.{pattern_order}
use Rattle.exact.proofs.Value.{rescale, unique}
use Rattle.number.specs.Narrow.{narrow}
use Rattle.number.proofs.NarrowBits.{ordinary_bits}
use Rattle.number.proofs.NarrowLaws.{narrow_fits}
use Rattle.exact.specs.Double.{one}
use Rattle.fast_cells.specs.Inner.{nought, least_short, Short}
use Rattle.fast_cells.proofs.OrderLaws.{above}

-- ---- one value by both patterns: k is the f64's without its last 29 digits
fields : (k : ℕ) → 0x1c0800000 ≤ k → k ≤ 0x1ff800000
    → (x : ℕ) × ((k - 0x1c0000000) / 0x800000 ≡ suc x) × (k * 0x20000000 / 0x10000000000000 ≡ suc (x + 896))
    × (k * 0x20000000 % 0x10000000000000 ≡ (k - 0x1c0000000) % 0x800000 * 0x20000000)
fields k a b = ((k - 0x1c0000000) / 0x800000 - 1, omega arith, omega arith, omega arith)

regroup : (q b c d e p : ℕ) → b * c * d ≡ e → q * b * (p * c) * d ≡ q * p * e
regroup q b c d e p h = shuffle q b c d p ∙ ap (λ (z : ℕ). q * p * z) h
  where
    shuffle : (q b c d p : ℕ) → q * b * (p * c) * d ≡ q * p * (b * c * d)
    shuffle q b c d p = omega arith

worth_same : (k : ℕ) → 0x1c0800000 ≤ k → k ≤ 0x1ff800000
    → worth binary64 (k * 0x20000000) * 2 ^ 149 ≡ worth binary32 (k - 0x1c0000000) * 2 ^ 1074
worth_same k a b =
    let f = fields k a b in
    let x = f.0 in
    let t = (k - 0x1c0000000) % 0x800000 in
    ap (λ (y : ℕ). lead 0x10000000000000 y (k * 0x20000000 % 0x10000000000000) * 2 ^ 149) f.2
    ∙ ap (λ (y : ℕ). (0x10000000000000 + y) * 2 ^ (x + 896) * 2 ^ 149) f.3
    ∙ ap (λ (y : ℕ). y * 2 ^ (x + 896) * 2 ^ 149) (digits t)
    ∙ ap (λ (y : ℕ). (0x800000 + t) * 0x20000000 * y * 2 ^ 149) (pow-add 2 x 896)
    ∙ regroup (0x800000 + t) 0x20000000 (2 ^ 896) (2 ^ 149) (2 ^ 1074) (2 ^ x) refl
    ∙ sym (ap (λ (y : ℕ). lead 0x800000 y t * 2 ^ 1074) f.1)
  where
    digits : (t : ℕ) → 0x10000000000000 + t * 0x20000000 ≡ (0x800000 + t) * 0x20000000
    digits t = omega arith

plain_value : (f : Format) (p : ℕ) → p < infinite f → HasValue (of_bits f p) false (worth f p) (2 ^ low f)
plain_value f p h = subst (λ (n : ℕ). HasValue (of_bits f n) false (worth f p) (2 ^ low f)) (zero-add p)
    (pattern_value f false p h)

-- ---- from 2^-126 to 1
module _ (m : ℕ) (least : 0x3810000000000000 ≤ m) (most : m ≤ 0x3ff0000000000000) where
  lower : 0x1c0800000 ≤ closest m 0x20000000
  lower = closest_ge m 0x20000000 0x1c0800000 (omega arith) (omega arith)

  upper : closest m 0x20000000 ≤ 0x1ff800000
  upper = closest_le m 0x20000000 0x1ff800000 (omega arith) (omega arith)

  narrow_is : narrow (of_bits binary64 m) ≡ of_bits binary32 (closest m 0x20000000 - 0x1c0000000)
  narrow_is = sym (of_bits-to_bits binary32 (narrow (of_bits binary64 m)) (narrow_fits (of_bits binary64 m)))
      ∙ ap (of_bits binary32) (ordinary_bits m least (omega arith))

  pub narrow_cut : of_bits binary64 (closest m 0x20000000 * 0x20000000) ≡ narrow (of_bits binary64 m)
  narrow_cut =
      let k = closest m 0x20000000 in
      let p = k - 0x1c0000000 in
      unique binary64 binary32 (of_bits binary64 (k * 0x20000000)) (of_bits binary32 p) false (worth binary32 p)
      (2 ^ 149) (pow_pos 149) (of_bits-fits binary64 (k * 0x20000000)) (of_bits-fits binary32 p)
      (rescale (of_bits binary64 (k * 0x20000000)) false (worth binary64 (k * 0x20000000)) (2 ^ 1074) (worth binary32 p)
      (2 ^ 149) (pow_pos 1074) (worth_same k lower upper) (plain_value binary64 (k * 0x20000000) (in_64 k upper)))
      (plain_value binary32 p (in_32 k upper))
      ∙ sym narrow_is
    where
      in_64 : (k : ℕ) → k ≤ 0x1ff800000 → k * 0x20000000 < 0x7ff0000000000000
      in_64 k h = omega arith

      in_32 : (k : ℕ) → k ≤ 0x1ff800000 → k - 0x1c0000000 < 0x7f800000
      in_32 k h = omega arith

zero_cut : of_bits binary64 (closest 0 0x20000000 * 0x20000000) ≡ narrow (of_bits binary64 0)
unfolding of_bits narrow
zero_cut = refl

-- ---- a short number by its pattern
zero_pattern : to_bits binary64 nought ≡ 0
zero_pattern = unfold of_bits to_bits in refl

-- the numbers from p to q, by their patterns
pattern_between : (p q : ℕ) (m : ℕ) (e : ℤ) → p < 0x7ff0000000000000 → q < 0x7ff0000000000000
    → T (fits binary64 (fin false m e)) → T (le (of_bits binary64 p) (fin false m e))
    → T (le (fin false m e) (of_bits binary64 q))
    → (p ≤ to_bits binary64 (fin false m e)) × (to_bits binary64 (fin false m e) ≤ q)
pattern_between p q m e P Q t l h =
    let b = to_bits binary64 (fin false m e) in
    let i = of_bits-to_bits binary64 (fin false m e) t in
    let B : b < 0x7ff0000000000000 = plain b (finite_bits binary64 false m e t) in (
      leb→le p b (subst T (pattern_order binary64 p b (omega arith) (omega arith))
          (subst (λ (x : Float). T (le (of_bits binary64 p) x)) (sym i) l)),
      leb→le b q (subst T (pattern_order binary64 b q (omega arith) (omega arith))
          (subst (λ (x : Float). T (le x (of_bits binary64 q))) (sym i) h)),
    )
  where
    plain : (b : ℕ) → b < 0 + 0x7ff0000000000000 → b < 0x7ff0000000000000
    plain b h = omega arith

least_value : HasValue least_short false 1 (2 ^ 126)
least_value = unfold of_bits in (refl, refl)

module _ (d : Float) (s : Short d) where
  ordinary : T (le least_short d) → T (le d one)
      → (0x3810000000000000 ≤ to_bits binary64 d) × (to_bits binary64 d ≤ 0x3ff0000000000000)
  ordinary l h = elim (above 1 (2 ^ 126) least_short d (zero-lt-suc 0) (pow_pos 126)
      least_value l) [
        | inl e ↦ absurd (endless (subst (λ (x : Float). T (le x one)) e h))
        | inr a ↦
            subst (λ (x : Float). (0x3810000000000000 ≤ to_bits binary64 x) × (to_bits binary64 x ≤ 0x3ff0000000000000))
            (sym a.is)
            (pattern_between 0x3810000000000000 0x3ff0000000000000 a.digits a.place (lit< tt) (lit< tt)
            (subst (λ (x : Float). T (fits binary64 x)) a.is s.held)
            (subst (λ (x : Float). T (le least_short x)) a.is l)
            (subst (λ (x : Float). T (le x one)) a.is h))
      ]
    where
      endless : T (le (inf false) one) → ⊥
      endless h = unfold le of_bits in h

  pub short_bits : to_bits binary64 d ≤ 0x3ff0000000000000
  short_bits = elim s.short [
    | inl e ↦ le_trans (le_of_eq (ap (to_bits binary64) e ∙ zero_pattern)) (lit≤ tt)
    | inr (l, h) ↦ (ordinary l h).1
  ]

  pub short_number : T (not (is_nan d))
  short_number = elim s.short [
    | inl e ↦ subst (λ (x : Float). T (not (is_nan x))) (sym e) (unfold is_nan of_bits in tt)
    | inr (l, h) ↦ number d h
  ]
    where
      number : (x : Float) → T (le x one) → T (not (is_nan x))
      number nan h = absurd (unfold le in h)
      number (inf t) h = unfold is_nan in tt
      number (fin t m e) h = unfold is_nan in tt

  pub short_cut : of_bits binary64 (closest (to_bits binary64 d) 0x20000000 * 0x20000000) ≡ narrow d
  short_cut = elim s.short [
    | inl e ↦ ap (λ (m : ℕ). of_bits binary64 (closest m 0x20000000 * 0x20000000)) (ap (to_bits binary64) e
        ∙ zero_pattern) ∙ zero_cut ∙ ap narrow (sym e)
    | inr (l, h) ↦ let b = ordinary l h in narrow_cut (to_bits binary64 d) b.0 b.1
        ∙ ap narrow (of_bits-to_bits binary64 d s.held)
  ]

  -- no NaN's pattern
  pub short_plain : T (not (nan_bits binary64 (closest (to_bits binary64 d) 0x20000000 * 0x20000000)))
  short_plain =
      let k = closest (to_bits binary64 d) 0x20000000 in
      pattern_number binary64 (k * 0x20000000)
      (le_trans (mod-le (k * 0x20000000) (top binary64))
      (small k (closest_le (to_bits binary64 d) 0x20000000 0x1ff800000 (zero-lt-suc 536870911) short_bits)))
    where
      small : (k : ℕ) → k ≤ 0x1ff800000 → k * 0x20000000 ≤ 0x7ff0000000000000
      small k h = omega arith

  pub short_held : T (fits binary32 (of_bits binary64 (closest (to_bits binary64 d) 0x20000000 * 0x20000000))
      && not (is_nan (of_bits binary64 (closest (to_bits binary64 d) 0x20000000 * 0x20000000))))
  short_held =
      and_i (fits binary32 (of_bits binary64 (closest (to_bits binary64 d) 0x20000000 * 0x20000000)))
      (not (is_nan (of_bits binary64 (closest (to_bits binary64 d) 0x20000000 * 0x20000000))))
      (subst (λ (x : Float). T (fits binary32 x)) (sym short_cut) (narrow_fits d))
      (subst (λ (b : Bool). T (not b)) (nan_bits_is binary64 (closest (to_bits binary64 d) 0x20000000 * 0x20000000))
      short_plain)
