-- Eight parts read side by side are one picture: a number j below 8 m is the place j % m of the part j / m. Assumes
-- nothing.
use mathlib.Core.Path.{◌≡◌, sym, ap, ◌∙◌, subst}
use mathlib.Core.Bool.{Bool, false, ◌||◌}
use mathlib.Core.List.{List}
use Prim.Native.Nat.{ℕ, zero, suc, ◌+◌, ◌*◌, ◌/◌, ◌%◌, ◌≤◌, ◌<◌, zero-le}
use native.Mathlib.Nat.{div-add-mod', div-lt_iff_lt-mul, mod-lt}
use native.Mathlib.Omega.{arith}
use Rattle.exact.specs.Loop.{up_to}
use Rattle.exact.proofs.Any.{each_none, none_each}
use Rattle.exact.proofs.Booleans.{or_false, both_false, same_false}
use Rattle.exact.proofs.Loop.{up_to_join}
use Rattle.sample_limit.specs.Samples.{beyond_limit, large, one_of_eight, in_parts}

-- what holds of the eight
eighth : (P : ℕ → Type 0) → P 0 → P 1 → P 2 → P 3 → P 4 → P 5 → P 6 → P 7 → (s : ℕ) → s < 8 → P s
eighth P a b c d e f g h zero l = a
eighth P a b c d e f g h (suc zero) l = b
eighth P a b c d e f g h (suc (suc zero)) l = c
eighth P a b c d e f g h (suc (suc (suc zero))) l = d
eighth P a b c d e f g h (suc (suc (suc (suc zero)))) l = e
eighth P a b c d e f g h (suc (suc (suc (suc (suc zero))))) l = f
eighth P a b c d e f g h (suc (suc (suc (suc (suc (suc zero)))))) l = g
eighth P a b c d e f g h (suc (suc (suc (suc (suc (suc (suc zero))))))) l = h
eighth P a b c d e f g h (suc (suc (suc (suc (suc (suc (suc (suc s)))))))) l = absurd (omega arith)

module _ (bytes : List ℕ) (m : ℕ) where
  -- one part's place, of eight that are none
  of_apart : (k : ℕ) → one_of_eight bytes m k ≡ false → (s : ℕ) → s < 8 → beyond_limit bytes (k + s * m) ≡ false
  of_apart k none =
      let g = or_false _ _ none in
      let f = or_false _ _ g.0 in
      let e = or_false _ _ f.0 in
      let d = or_false _ _ e.0 in
      let c = or_false _ _ d.0 in
      let b = or_false _ _ c.0 in
      let a = or_false _ _ b.0 in
      eighth (λ (s : ℕ). beyond_limit bytes (k + s * m) ≡ false)
      (subst (λ (i : ℕ). beyond_limit bytes i ≡ false) (at_0 k m) a.0)
      (subst (λ (i : ℕ). beyond_limit bytes i ≡ false) (at_1 k m) a.1)
      b.1
      c.1
      d.1
      e.1
      f.1
      g.1
    where
      at_0 : (k m : ℕ) → k ≡ k + 0 * m
      at_0 k m = omega arith

      at_1 : (k m : ℕ) → k + m ≡ k + 1 * m
      at_1 k m = omega arith

  to_apart : (k : ℕ) → k < m → ((j : ℕ) → j < 8 * m → beyond_limit bytes j ≡ false) → one_of_eight bytes m k ≡ false
  to_apart k h all =
      both_false _ _
      (both_false _ _ (both_false _ _
      (both_false _ _ (both_false _ _
      (both_false _ _ (both_false _ _ (all k (omega arith)) (all (k + m) (omega arith)))
      (all (k + 2 * m) (omega arith))) (all (k + 3 * m) (omega arith))) (all (k + 4 * m) (omega arith)))
      (all (k + 5 * m) (omega arith))) (all (k + 6 * m) (omega arith)))
      (all (k + 7 * m) (omega arith))

  pub parts_whole : in_parts bytes m m ≡ large bytes (8 * m)
  unfolding large
  parts_whole = same_false (in_parts bytes m m) (large bytes (8 * m))
      (λ none. each_none (beyond_limit bytes) (8 * m) (λ j h. from j h none))
      (λ none. each_none (one_of_eight bytes m) m
      (λ k h. to_apart k h (λ j l. none_each (beyond_limit bytes) (8 * m) none j l)))
    where
      positive : (j m : ℕ) → j < 8 * m → 0 < m
      positive j m h = omega arith

      from : (j : ℕ) → j < 8 * m → in_parts bytes m m ≡ false → beyond_limit bytes j ≡ false
      from j h none =
          subst (λ (i : ℕ). beyond_limit bytes i ≡ false) (place j)
          (of_apart (j % m) (none_each (one_of_eight bytes m) m none (j % m) (mod-lt j (positive j m h))) (j / m)
          (below j h))
        where
          place : (j : ℕ) → j % m + j / m * m ≡ j
          place j = omega (arith, div-add-mod' j m)

          below : (j : ℕ) → j < 8 * m → j / m < 8
          below j h = (div-lt_iff_lt-mul (positive j m h)).1 h

  -- and the rest after them
  pub parts_and_rest : (n : ℕ) (t r : Bool) → 8 * m ≤ n → t ≡ in_parts bytes m m
      → r ≡ up_to (λ (k : ℕ) (t : Bool). t || beyond_limit bytes k) (8 * m) n t → r ≡ large bytes n
  unfolding large
  parts_and_rest n t r h e f =
      f
      ∙ ap (up_to (λ (k : ℕ) (t : Bool). t || beyond_limit bytes k) (8 * m) n) (e ∙ parts_whole)
      ∙ sym (up_to_join (λ (k : ℕ) (t : Bool). t || beyond_limit bytes k) 0 false (8 * m) n zero-le h)
