-- One sample of one warp, once and for all: the f32 blend is near the exact blend of the same taps at the same
-- fractions (Weighted); that is near the surface at the point, since the taps are near the surface's values and the
-- point is near the exact one, in whatever cell it was put (`taps_near`). The errors add up. Provides: `position` (a
-- coordinate less 0.5, in its cell); `surface_taps` (the surface at a point is the sum of the four taps around it times
-- their weights), `exact_unit`, `exact_opaque`; `warp_taps` (from four taps, 20 units), `warp_near` (from a picture, 20
-- units); `to_demand`, `warp_demand` (in the words of specification 11.4). Assumes nothing.
use mathlib.Core.Path.{refl}
use mathlib.Core.List.{[], ◌∷◌}
use Prim.Native.Nat.{◌^◌}
use native.Mathlib.Omega.{arith}
use lib.IntN.{ℤ, suc_ℤ}
use lib.Dec.{T, lit≤}
use lib.Ieee.{Float, binary64, of_bits}
use lib.Ieee.Scale.{finite}
use Rattle.exact.specs.Fraction.{Fraction, frac, whole, value, ◌≤F◌, ◌≈◌, ◌+F◌, ◌-F◌, ◌*F◌, abs_f, Within, Unit01}
use Rattle.exact.specs.Rounds.{Rounds}
use Rattle.exact.specs.Surface.{floor_f, part_f, surface}
use Rattle.exact.specs.Blend.{blend_f}
use Rattle.exact.specs.Double.{◌⊖◌}
use Rattle.exact.specs.Weighted.{e00, e10, e01, e11, colour, Sample, blend_error}
use Rattle.exact.specs.Warp.{
  half,
  cell_error,
  InCell,
  coordinate_error,
  Coordinate,
  position_error,
  warp_error,
  exact_sample,
}
use Rattle.exact.proofs.Scale.{at_le, le_at, at_add, common}
use Rattle.exact.proofs.Near.{
  le_refl,
  le_trans,
  add_mono,
  add_same,
  within_same,
  within_trans,
  within_sub,
  within_more,
}
use Rattle.exact.proofs.Products.{eq_refl, ◌⨟◌, sub_same, mul_same, mul_one, add_zero, unit_same}
use Rattle.exact.proofs.NearProducts.{within_like, within_nonneg}
use Rattle.exact.proofs.Floor.{part_unit, part_add}
use Rattle.exact.proofs.Surface.{surface_unit}
use Rattle.exact.proofs.Rounds.{rounds_along}
use Rattle.exact.proofs.Operations.{sub_rounds}
use Rattle.exact.proofs.Bounds.{rounds_bound}
use Rattle.exact.proofs.Steps.{abs_sub}
use Rattle.exact.proofs.Taps.{four_taps, surface_blend, taps_near}
use Rattle.exact.proofs.Samples.{sample_more, sample_along}
use Rattle.exact.proofs.Weighted.{total_one, colour_near}

-- ---- the position: a coordinate less 0.5, put into a cell
half_number : T (finite half)
unfolding of_bits
half_number = tt

half_value : value half ≈ frac 1 2
unfolding of_bits
half_value = record { eq = refl }

module _ (u t : Float) (exact : Fraction) (k : ℤ) (c : Coordinate u exact) (p : InCell (u ⊖ half) k t) where
  less_half : Rounds binary64 (u ⊖ half) (value u -F frac 1 2)
  less_half = rounds_along (sub_same (eq_refl (value u)) half_value)
      (sub_rounds binary64 u half c.number half_number)

  less_near : Within (value (u ⊖ half)) (value u -F frac 1 2) (frac 1 (2 ^ 39))
  less_near =
      (rounds_bound less_half 1089 32768 1 1 (2 ^ 39) tt
      (le_trans (abs_f (value u -F frac 1 2)) (frac 16385 1 +F frac 1 2) (frac 32768 1)
      (abs_sub (value u) (frac 1 2) (frac 16385 1) (frac 1 2) c.small (unfold abs_f in record { le = lit≤ tt }))
      (unfold ◌+F◌ in record { le = lit≤ tt }))
      ).near

  pub position : Within (whole k +F value t) (exact -F frac 1 2) position_error
  position =
      within_trans (whole k +F value t) (value (u ⊖ half)) (exact -F frac 1 2) cell_error (frac 1 (2 ^ 39)
      +F coordinate_error) p.near
      (within_trans (value (u ⊖ half)) (value u -F frac 1 2) (exact -F frac 1 2) (frac 1 (2 ^ 39)) coordinate_error
      less_near
      (within_like (eq_refl (value u -F frac 1 2)) (eq_refl (exact -F frac 1 2)) (add_zero coordinate_error)
      (within_sub (value u) exact (frac 1 2) (frac 1 2) coordinate_error (frac 0 1) c.near
      (within_same (frac 1 2) (frac 1 2) (frac 0 1) (eq_refl (frac 1 2)) (le_refl (frac 0 1) (frac 0 1))))))

-- ---- the surface at a point is the sum of the four taps around it, each times its weight
pub surface_taps : (a : ℤ → ℤ → Fraction) (x y : Fraction) → surface a x y ≈ exact_sample a x y
surface_taps a x y =
    let k = floor_f x in
    let l = floor_f y in
    surface_blend a x y (part_f x) (part_f y) k l (part_unit x) (part_unit y) (part_add x) (part_add y)
    ⨟ four_taps (part_f x) (part_f y) (a k l) (a (suc_ℤ k) l) (a k (suc_ℤ l)) (a (suc_ℤ k) (suc_ℤ l))

pub exact_unit : (a : ℤ → ℤ → Fraction) (x y : Fraction) → ((i j : ℤ) → Unit01 (a i j)) → Unit01 (exact_sample a x y)
exact_unit a x y h = unit_same (surface_taps a x y) (surface_unit a x y h)

-- opaque taps give an opaque sample
pub exact_opaque : (a : ℤ → ℤ → Fraction) (x y : Fraction) → ((i j : ℤ) → a i j ≈ frac 1 1)
    → exact_sample a x y ≈ frac 1 1
exact_opaque a x y h =
    let k = floor_f x in
    let l = floor_f y in
    sum_same (times (e00 (part_f x) (part_f y)) (h k l)) (times (e10 (part_f x) (part_f y)) (h (suc_ℤ k) l))
    (times (e01 (part_f x) (part_f y)) (h k (suc_ℤ l))) (times (e11 (part_f x) (part_f y)) (h (suc_ℤ k) (suc_ℤ l)))
    ⨟ total_one (part_f x) (part_f y)
  where
    times : (w : Fraction) {p : Fraction} → p ≈ frac 1 1 → w *F p ≈ w
    times w e = mul_same (eq_refl w) e ⨟ mul_one w

    sum_same : {p q r s p' q' r' s' : Fraction} → p ≈ p' → q ≈ q' → r ≈ r' → s ≈ s' → p +F q +F r +F s ≈ p' +F q' +F r'
        +F s'
    sum_same {p} {q} {r} {s} {p'} {q'} {r'} {s'} f g h k =
        add_same (p +F q +F r) (p' +F q' +F r') s s' (add_same (p +F q) (p' +F q') r r' (add_same p p' q q' f g) h) k

-- ---- the sum: 17 units of the blend, and less than 1.3 for each position
budget : (b e p c : Fraction) → b +F p ≤F c → b +F (e +F p) ≤F e +F c
budget b e p c h =
    common (b ∷ e ∷ p ∷ c ∷ [])
    (λ D D0 ((_, _, B), ((_, _, E), ((_, _, P), ((_, _, C), _)))). let l = le_at D D0 (at_add B P) C h in
    at_le D D0 (at_add B (at_add E P)) (at_add E C) (omega arith))

in_all : blend_error +F (position_error +F position_error) ≤F warp_error
in_all = unfold ◌+F◌ in record { le = lit≤ tt }

-- as specification 11.3 and 11.4 word both: against the sum of four exact taps, and 1 / 524,288 for each warp, which is
-- 32 units
pub to_demand : {r : Float} (a : ℤ → ℤ → Fraction) (x y e : Fraction) → Sample r (surface a x y) (e +F warp_error)
    → Sample r (exact_sample a x y) (e +F frac 1 524288)
to_demand a x y e s =
    sample_along (surface_taps a x y) (eq_refl (e +F frac 1 524288))
    (sample_more (add_mono e e warp_error (frac 1 524288) (le_refl e e) (record { le = lit≤ tt })) s)

-- Q is the exact picture over the whole plane: a policy names a pixel or a colour for each index for good
module _ (Q : ℤ → ℤ → Fraction) (values : (i j : ℤ) → Unit01 (Q i j)) (e : Fraction) where
  module _ (u v tx ty : Float) (ue ve : Fraction) (k l : ℤ) (cu : Coordinate u ue) (cv : Coordinate v ve)
      (px : InCell (u ⊖ half) k tx) (py : InCell (v ⊖ half) l ty) where
    pub warp_taps : (a b c d : Float) → Sample a (Q k l) e → Sample b (Q (suc_ℤ k) l) e → Sample c (Q k (suc_ℤ l)) e
        → Sample d (Q (suc_ℤ k) (suc_ℤ l)) e
        → Sample (colour tx ty a b c d) (surface Q (ue -F frac 1 2) (ve -F frac 1 2)) (e +F warp_error)
    warp_taps a b c d sa sb sc sd = record {
      is = s.is;
      near = within_more (value r) there (blend_error +F (e +F (position_error +F position_error))) (e +F warp_error)
          (budget blend_error e (position_error +F position_error) warp_error in_all)
          (within_trans (value r) here there blend_error (e +F (position_error +F position_error)) s.near
          (taps_near Q values (ue -F frac 1 2) (ve -F frac 1 2) (value tx) (value ty) position_error position_error e k l
          (value a ∷ value b ∷ value c ∷ value d ∷ [])
          px.fraction.unit py.fraction.unit (position u tx ue k cu px) (position v ty ve l cv py)
          (within_nonneg (value a) (Q k l) e sa.near) (sa.near, (sb.near, (sc.near, (sd.near, tt))))));
    }
      where
        r : Float
        r = colour tx ty a b c d

        here : Fraction
        here = blend_f (value tx ∷ value ty ∷ []) (value a ∷ value b ∷ value c ∷ value d ∷ [])

        there : Fraction
        there = surface Q (ue -F frac 1 2) (ve -F frac 1 2)

        s : Sample r here blend_error
        s = colour_near tx ty px.fraction py.fraction a b c d sa.is sb.is sc.is sd.is

    -- ---- from a picture P near Q
    module _ (P : ℤ → ℤ → Float) (near : (i j : ℤ) → Sample (P i j) (Q i j) e) where
      abbrev pub sampled : Float
      sampled = colour tx ty (P k l) (P (suc_ℤ k) l) (P k (suc_ℤ l)) (P (suc_ℤ k) (suc_ℤ l))

      pub warp_near : Sample sampled (surface Q (ue -F frac 1 2) (ve -F frac 1 2)) (e +F warp_error)
      warp_near =
          warp_taps (P k l) (P (suc_ℤ k) l) (P k (suc_ℤ l)) (P (suc_ℤ k) (suc_ℤ l)) (near k l) (near (suc_ℤ k) l)
          (near k (suc_ℤ l)) (near (suc_ℤ k) (suc_ℤ l))

      pub warp_demand : Sample sampled (exact_sample Q (ue -F frac 1 2) (ve -F frac 1 2)) (e +F frac 1 524288)
      warp_demand = to_demand Q (ue -F frac 1 2) (ve -F frac 1 2) e warp_near
