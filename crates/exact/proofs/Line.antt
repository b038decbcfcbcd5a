-- The line through values at whole numbers. It may be evaluated in any cell that x touches, at a border in either,
-- since both mixes are the border's value there. So it moves by at most |x - x'|: within a cell the mix does; over one
-- border go through its value; further apart |x - x'| is above 1, and both values are from 0 to 1. Provides:
-- `lin_unit`, `lin_near`, `lin_eval`, `lin_move`. Assumes nothing.
use mathlib.Core.Path.{subst}
use mathlib.Core.List.{[], ◌∷◌}
use mathlib.Core.Logic.{⊎_elim}
use native.Mathlib.Omega.{arith}
use lib.IntN.{ℤ, suc_ℤ}
use Rattle.exact.specs.Fraction.{Fraction, frac, whole, ◌≤F◌, ◌<F◌, ◌≈◌, ◌+F◌, ◌-F◌, Within, Unit01}
use Rattle.exact.specs.Surface.{floor_f, part_f, mix_f, lin}
use Rattle.exact.proofs.Scale.{at_le, le_at, lt_at, at_eq, eq_at, at_add, at_sub, common}
use Rattle.exact.proofs.Near.{
  le_refl,
  le_total,
  add_same,
  lt_le,
  le_antisym,
  within_at,
  at_within,
  within_sym,
  within_more,
  within_trans,
  le_trans,
}
use Rattle.exact.proofs.Products.{eq_refl, ◌⨟◌, back, at_zero, at_one, lt_or_le, add_zero, unit_zero}
use Rattle.exact.proofs.NearProducts.{within_like, within_unit}
use Rattle.exact.proofs.Floor.{whole_next, floor_le, floor_lt, part_unit, split_only}
use Rattle.exact.proofs.Mix.{mix_same, mix_zero, mix_one, mix_unit, mix_near, mix_slope}

pub lin_unit : (a : ℤ → Fraction) (x : Fraction) → ((k : ℤ) → Unit01 (a k)) → Unit01 (lin a x)
unfolding lin
lin_unit a x h = mix_unit (part_f x) (part_unit x) (h (floor_f x)) (h (suc_ℤ (floor_f x)))

pub lin_near : (a b : ℤ → Fraction) (x e : Fraction) → ((k : ℤ) → Within (a k) (b k) e) → Within (lin a x) (lin b x) e
unfolding lin
lin_near a b x e h =
    mix_near (part_f x) (part_unit x) (a (floor_f x)) (b (floor_f x)) (a (suc_ℤ (floor_f x))) (b (suc_ℤ (floor_f x))) e
    (h (floor_f x)) (h (suc_ℤ (floor_f x)))

module _ (a : ℤ → Fraction) where
  -- t below 1: k is the floor and t the part
  inside : (x t : Fraction) (k : ℤ) → frac 0 1 ≤F t → t <F frac 1 1 → x ≈ whole k +F t
      → lin a x ≈ mix_f t (a k) (a (suc_ℤ k))
  unfolding lin
  inside x t k l u h =
      let s = split_only x t k h l u in
      subst (λ (j : ℤ). mix_f (part_f x) (a (floor_f x)) (a (suc_ℤ (floor_f x))) ≈ mix_f t (a j) (a (suc_ℤ j))) s.0
      (mix_same s.1 (eq_refl (a (floor_f x))) (eq_refl (a (suc_ℤ (floor_f x)))))

  -- t may be 1: then x is the next whole number, and both mixes are its value
  pub lin_eval : (x t : Fraction) (k : ℤ) → Unit01 t → x ≈ whole k +F t → lin a x ≈ mix_f t (a k) (a (suc_ℤ k))
  lin_eval x t k u h = ⊎_elim (λ (l : t <F frac 1 1). inside x t k u.0 l h) border (lt_or_le t (frac 1 1))
    where
      border : frac 1 1 ≤F t → lin a x ≈ mix_f t (a k) (a (suc_ℤ k))
      border l =
          let e : t ≈ frac 1 1 = le_antisym t (frac 1 1) u.1 l in
          inside x (frac 0 1) (suc_ℤ k) unit_zero.0 (record { lt = omega arith })
          (h ⨟ add_same (whole k) (whole k) t (frac 1 1) (eq_refl (whole k)) e ⨟ back (whole_next k) ⨟ back
          (add_zero (whole (suc_ℤ k))))
          ⨟ mix_zero (a (suc_ℤ k)) (a (suc_ℤ (suc_ℤ k)))
          ⨟ back (mix_one (a k) (a (suc_ℤ k)))
          ⨟ mix_same (back e) (eq_refl (a k)) (eq_refl (a (suc_ℤ k)))

  -- ---- how far it moves, for values from 0 to 1
  module _ (u : (k : ℤ) → Unit01 (a k)) where
    -- both positions touch the cell of k
    abbrev In : ℤ → Fraction → Type 0
    In k x = (whole k ≤F x) × (x ≤F whole (suc_ℤ k))

    cell : (k : ℤ) (x y d : Fraction) → In k x → In k y → Within x y d → Within (lin a x) (lin a y) d
    cell k x y d h l w =
        within_like (back (there x h)) (back (there y l)) (eq_refl d)
        (mix_slope (x -F whole k) (y -F whole k) (a k) (a (suc_ℤ k)) d (u k) (u (suc_ℤ k)) moved)
      where
        there : (z : Fraction) → In k z → lin a z ≈ mix_f (z -F whole k) (a k) (a (suc_ℤ k))
        there z i =
            common (z ∷ whole k ∷ whole (suc_ℤ k) ∷ [])
            (λ D D0 ((_, _, Z), ((_, _, K), ((_, _, J), _))).
            let b = eq_at D D0 J (at_add K (at_one D)) (whole_next k) in
            let c = le_at D D0 K Z i.0 in
            let e = le_at D D0 Z J i.1 in
            lin_eval z (z -F whole k) k (
              at_le D D0 (at_zero D) (at_sub Z K) (omega arith),
              at_le D D0 (at_sub Z K) (at_one D) (omega arith),
            ) (at_eq D D0 Z (at_add K (at_sub Z K)) (omega arith)))

        moved : Within (x -F whole k) (y -F whole k) d
        moved =
            common (x ∷ y ∷ d ∷ whole k ∷ [])
            (λ D D0 ((_, _, X), ((_, _, Y), ((_, _, E), ((_, _, K), _)))).
            let b = within_at D D0 X Y E w in
            at_within D D0 (at_sub X K) (at_sub Y K) E (omega arith) (omega arith))

    -- x in the cell of k, and y above x: in the same cell, in the next, or further on
    module _ (k : ℤ) (x y d : Fraction) (i : In k x) (l : x ≤F y) (w : Within x y d) where
      next : whole (suc_ℤ k) ≤F y → y ≤F whole (suc_ℤ (suc_ℤ k)) → Within (lin a x) (lin a y) d
      next f g =
          let b = whole (suc_ℤ k) in
          common (x ∷ y ∷ d ∷ whole k ∷ b ∷ [])
          (λ D D0 ((_, _, X), ((_, _, Y), ((_, _, E), ((_, _, K), ((_, _, B), _))))). let m = within_at D D0 X Y E w in
          let h = le_at D D0 X B i.1 in
          let j = le_at D D0 B Y f in
          let n = eq_at D D0 B (at_add K (at_one D)) (whole_next k) in
          within_more (lin a x) (lin a y) ((b -F x) +F (y -F b)) d
          (at_le D D0 (at_add (at_sub B X) (at_sub Y B)) E (omega arith))
          (within_trans (lin a x) (lin a b) (lin a y) (b -F x) (y -F b)
          (cell k x b (b -F x) i (at_le D D0 K B (omega arith), le_refl b b)
          (at_within D D0 X B (at_sub B X) (omega arith) (omega arith)))
          (cell (suc_ℤ k) b y (y -F b) (le_refl b b, le_trans b y (whole (suc_ℤ (suc_ℤ k))) f g) (f, g)
          (at_within D D0 B Y (at_sub Y B) (omega arith) (omega arith)))))

      far : whole (suc_ℤ (suc_ℤ k)) <F y → Within (lin a x) (lin a y) d
      far g =
          common (x ∷ y ∷ d ∷ whole (suc_ℤ k) ∷ whole (suc_ℤ (suc_ℤ k)) ∷ [])
          (λ D D0 ((_, _, X), ((_, _, Y), ((_, _, E), ((_, _, B), ((_, _, C), _))))). let m = within_at D D0 X Y E w in
          let h = le_at D D0 X B i.1 in
          let j = lt_at D D0 C Y g in
          let n = eq_at D D0 C (at_add B (at_one D)) (whole_next (suc_ℤ k)) in
          within_more (lin a x) (lin a y) (frac 1 1) d (at_le D D0 (at_one D) E (omega arith))
          (within_unit (lin a x) (lin a y) (lin_unit a x u) (lin_unit a y u)))

      up : Within (lin a x) (lin a y) d
      up = ⊎_elim
          (λ (h : y ≤F whole (suc_ℤ k)). cell k x y d i (le_trans (whole k) x y i.0 l, h) w)
          (λ (f : whole (suc_ℤ k) ≤F y). ⊎_elim far (next f) (lt_or_le (whole (suc_ℤ (suc_ℤ k))) y))
          (le_total y (whole (suc_ℤ k)))

    cell_of : (x : Fraction) → In (floor_f x) x
    cell_of x = (floor_le x, lt_le x (whole (suc_ℤ (floor_f x))) (floor_lt x))

    pub lin_move : (x y d : Fraction) → Within x y d → Within (lin a x) (lin a y) d
    lin_move x y d w = ⊎_elim
        (λ (l : x ≤F y). up (floor_f x) x y d (cell_of x) l w)
        (λ (l : y ≤F x). within_sym (lin a y) (lin a x) d (up (floor_f y) y x d (cell_of y) l (within_sym x y d w)))
        (le_total x y)
