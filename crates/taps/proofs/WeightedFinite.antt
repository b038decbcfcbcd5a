-- The mean of at most sixteen taps is a number: samples of at most 2 ^ 16 and weights of at most 1 make sums of at most
-- 2 ^ 37, and a divisor is above 2 ^ -30, so a quotient is at most 2 ^ 67, whatever the signs. Provides: `most`,
-- `sample_most`, `weighted_bounded`. Assumes nothing.
use mathlib.Core.Path.{◌≡◌, refl, sym, ap, ◌∙◌, subst}
use mathlib.Core.Bool.{Bool, true, false, cond}
use mathlib.Core.List.{List}
use Prim.Native.Nat.{ℕ, ◌^◌, ◌≤◌, ◌<◌}
use native.Mathlib.Omega.{arith}
use lib.Dec.{T, lit≤, lit<}
use lib.Ieee.{Float, binary32, lt, of_bits}
use lib.Ieee.Scale.{finite}
use Rattle.exact.specs.Fraction.{Fraction, frac, value, ◌≤F◌, ◌<F◌, ◌≈◌, ◌+F◌, ◌*F◌, abs_f}
use Rattle.exact.specs.Loop.{up_to}
use Rattle.exact.specs.Single.{◌⊕◌, ◌⊗◌, ◌⊘◌}
use Rattle.exact.proofs.Near.{le_trans, lt_le}
use Rattle.exact.proofs.Products.{eq_refl, le_same, lt_le_trans}
use Rattle.exact.proofs.Magnitude.{abs_alike}
use Rattle.exact.proofs.Signed.{lt_value}
use Rattle.exact.proofs.Operations.{div_rounds}
use Rattle.exact.proofs.Bounds.{rounds_bound}
use Rattle.exact.proofs.Sums.{Step, step_fine}
use Rattle.number.specs.Magnitude.{abs}
use Rattle.picture.specs.Colour as Colour
use Rattle.taps.specs.Weighted.{
  nothing,
  added,
  least,
  quotient,
  mean,
  tap_at,
  weight_at,
  tap_sums,
  weighted,
  Bounded,
  BoundedBy,
}
use Rattle.picture.specs.declared.colour.Rgba.{Rgba}
use Rattle.taps.specs.declared.weighted.Sums.{Sums}
use Rattle.cubic.proofs.Sizes.{up_to_part, abs_magnitude, mul_bounded, sum_bounded, div_size}

-- 2 ^ -30 is below the least divisor
abbrev tiny : Fraction
tiny = frac 1 (2 ^ 30)

abbrev pub most : Fraction
most = frac (2 ^ 67) 1

quotient_bounded : (x y : Float) → Bounded (frac (2 ^ 37) 1) x → T (finite y) → Bounded most (quotient x y)
unfolding quotient
quotient_bounded x y p q = go (lt least (abs y)) (λ t. above t)
  where
    least_number : T (finite least)
    least_number = unfold of_bits in tt

    tiny_least : tiny ≤F value least
    tiny_least = unfold of_bits in record { le = lit≤ tt }

    above : T (lt least (abs y)) → tiny ≤F abs_f (value y)
    above t =
        let m = abs_magnitude y q in
        le_trans tiny (value least) (abs_f (value y)) tiny_least
        (le_same (eq_refl (value least)) m.1
        (lt_le (value least) (value (abs y)) ((lt_value least (abs y) least_number m.0).0 t)))

    tiny_pos : frac 0 1 <F tiny
    tiny_pos = record { lt = lit< tt }

    apart : tiny ≤F abs_f (value y) → value y ≈ frac 0 1 → ⊥
    apart h e = never (lt_le_trans (lt_le_trans tiny_pos h)
        (le_trans (abs_f (value y)) (abs_f (frac 0 1)) (frac 0 1) (abs_alike (value y) (frac 0 1) e) flat))
      where
        flat : abs_f (frac 0 1) ≤F frac 0 1
        flat = unfold abs_f in record { le = lit≤ tt }

        never : frac 0 1 <F frac 0 1 → ⊥
        never k = let l = k.lt in omega arith

    room : frac (2 ^ 37) 1 ≤F most *F tiny
    room = unfold ◌*F◌ in record { le = lit≤ tt }

    go : (t : Bool) → (T t → tiny ≤F abs_f (value y)) → Bounded most (cond t (x ⊘ y) Colour.zero)
    go false h = record { number = unfold of_bits in tt; size = unfold of_bits abs_f in record { le = lit≤ tt } }
    go true h =
        let l = h tt in
        let c =
        rounds_bound (div_rounds binary32 x y p.number q (lt_le_trans tiny_pos l)) 216 (2 ^ 67) 1 (2 ^ 42) 1 tt
        (div_size (value x) (value y) (frac (2 ^ 37) 1) most tiny tiny_pos l (apart l) p.size room) in
        record { number = c.number; size = c.small }

-- ---- the law
abbrev pub sample_most : Fraction
sample_most = frac 65536 1

abbrev step_16 : Step binary32 (frac 1 512) (frac 65536 1)
step_16 = step_fine binary32 165 65536 1 1 512 tt

abbrev step_32 : Step binary32 (frac 128 1) (frac (2 ^ 32) 1)
step_32 = step_fine binary32 181 (2 ^ 32) 1 128 1 tt

abbrev step_37 : Step binary32 (frac 4096 1) (frac (2 ^ 37) 1)
step_37 = step_fine binary32 186 (2 ^ 37) 1 4096 1 tt

module _ (taps : List Rgba) (weights : List Float) (n : ℕ) (l : n ≤ 16) (P : (k : ℕ) → k < n
    → BoundedBy sample_most (tap_at taps k)) (W : (k : ℕ) → k < n → Bounded (frac 1 1) (weight_at weights k)) where
  abbrev total : (ℕ → Float) → Float
  total t = up_to (λ (k : ℕ) (s : Float). s ⊕ t k) 0 n Colour.zero

  -- the sums' terms
  abbrev term : (Rgba → Float) → ℕ → Float
  term part k = weight_at weights k ⊗ part (tap_at taps k) ⊗ (tap_at taps k).a

  term_bounded : (part : Rgba → Float) → ((k : ℕ) → k < n → Bounded sample_most (part (tap_at taps k))) → (k : ℕ) → k < n
      → Bounded (frac (2 ^ 32) 1) (term part k)
  term_bounded part b k h =
      mul_bounded step_32 (mul_bounded step_16 (W k h) (b k h) (unfold ◌*F◌ in record { le = lit≤ tt })) (P k h).alpha
      (unfold ◌*F◌ in record { le = lit≤ tt })

  alpha_bounded : (k : ℕ) → k < n → Bounded (frac (2 ^ 32) 1) (weight_at weights k ⊗ (tap_at taps k).a)
  alpha_bounded k h =
      let b = mul_bounded step_16 (W k h) (P k h).alpha (unfold ◌*F◌ in record { le = lit≤ tt }) in
      record {
        number = b.number;
        size = le_trans (abs_f (value (weight_at weights k ⊗ (tap_at taps k).a))) (frac 65536 1)
            (frac (2 ^ 32) 1) b.size (record { le = lit≤ tt });
      }

  weight_bounded : (k : ℕ) → k < n → Bounded (frac (2 ^ 32) 1) (weight_at weights k)
  weight_bounded k h = record {
    number = (W k h).number;
    size = le_trans (abs_f (value (weight_at weights k))) (frac 1 1)
        (frac (2 ^ 32) 1) (W k h).size (record { le = lit≤ tt });
  }

  sum_37 : (t : ℕ → Float) → ((k : ℕ) → k < n → Bounded (frac (2 ^ 32) 1) (t k)) → Bounded (frac (2 ^ 37) 1) (total t)
  sum_37 t b =
      sum_bounded step_37 (record { le = lit≤ tt }) (frac (2 ^ 32) 1) (record { le = lit≤ tt }) (unfold ◌+F◌ ◌*F◌ in
      record { le = lit≤ tt }) (unfold ◌+F◌ in record { le = lit≤ tt }) t n l b

  -- one sum of the record
  part_bounded : (part : Sums → Float) (t : ℕ → Float)
      → ((k : ℕ) (s : Sums) → part (added (tap_at taps k) (weight_at weights k) s) ≡ part s ⊕ t k)
      → part nothing ≡ Colour.zero
      → ((k : ℕ) → k < n → Bounded (frac (2 ^ 32) 1) (t k)) → Bounded (frac (2 ^ 37) 1) (part (tap_sums taps weights n))
  part_bounded part t same first b =
      subst (λ (x : Float). Bounded (frac (2 ^ 37) 1) x)
      (sym (up_to_part part (λ (k : ℕ). added (tap_at taps k) (weight_at weights k)) (λ (k : ℕ) (s : Float). s ⊕ t k) same
      0 n nothing ∙ ap (λ (z : Float). up_to (λ (k : ℕ) (s : Float). s ⊕ t k) 0 n z) first)) (sum_37 t b)

  pub weighted_bounded : BoundedBy most (weighted taps weights n)
  unfolding weighted mean added
  weighted_bounded =
      let s : Sums = tap_sums taps weights n in
      let r = part_bounded (λ s. s.r) (term (λ p. p.r)) (λ k s. refl) refl
      (term_bounded (λ p. p.r) (λ k h. (P k h).red)) in
      let g = part_bounded (λ s. s.g) (term (λ p. p.g)) (λ k s. refl) refl
      (term_bounded (λ p. p.g) (λ k h. (P k h).green)) in
      let b = part_bounded (λ s. s.b) (term (λ p. p.b)) (λ k s. refl) refl
      (term_bounded (λ p. p.b) (λ k h. (P k h).blue)) in
      let a = part_bounded (λ s. s.a) (λ k. weight_at weights k ⊗ (tap_at taps k).a) (λ k s. refl) refl alpha_bounded in
      let w = part_bounded (λ s. s.weight) (weight_at weights) (λ k s. refl) refl weight_bounded in
      record {
        red = quotient_bounded s.r s.a r a.number;
        green = quotient_bounded s.g s.a g a.number;
        blue = quotient_bounded s.b s.a b a.number;
        alpha = quotient_bounded s.a s.weight a w.number;
      }
