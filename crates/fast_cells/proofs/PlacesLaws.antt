-- The laws of filled arrays for one tap: what a turn stores is a place, and a store more makes the span longer by one.
-- Assumes nothing.
use mathlib.Core.Path.{◌≡◌, refl, sym, ap, ◌∙◌, subst}
use mathlib.Core.Logic.{◌≢◌}
use mathlib.Core.Bool.{Bool, true, cond, ◌&&◌}
use mathlib.Core.List.{List}
use Prim.Native.Nat.{ℕ, ◌+◌, ◌≤◌, ◌<◌}
use native.Mathlib.Nat.{not-suc-le-zero}
use native.Mathlib.Omega.{arith}
use borrow.Author.Count.{below_more}
use lib.Dec.{T}
use lib.IntN.{pos, nat_abs}
use lib.ListN.{get_or, length, set, length-set}
use lib.Seq.{get_or-set_same, get_or-set_other}
use lib.Ieee.{Float, nan}
use Rattle.exact.specs.Double.{◌⊕◌, ◌⊖◌}
use Rattle.exact.specs.Warp.{half}
use Rattle.exact.proofs.Booleans.{both}
use Rattle.number.specs.Floor.{floorℤ}
use Rattle.number.proofs.FloorLaws.{floor_integer}
use Rattle.taps.specs.declared.interpolation.Interpolation.{Interpolation}
use Rattle.taps.specs.declared.interpolation.Interpolation.TheVariants.{Integer, Nearest}
use Rattle.taps.proofs.CellFloor.{usable_reached}
use Rattle.fast_cells.specs.Cells.{Place, Places}
use Rattle.fast_cells.specs.Inner.{nought, has_cell, has_place}
use Rattle.fast_cells.proofs.CellsLaws.{cell}
use Rattle.fast_cells.proofs.NearestLaws.{nearby_usable, nearby_floored}

-- ---- one place
module _ (reach : ℕ) (R : reach ≤ 65536) (u : Float) where
  pub integer : {z : Float} {c : ℕ} {b : Bool} → z ≡ cond (has_cell reach u) (u ⊖ half) nought → floorℤ z ≡ pos c
      → b ≡ has_cell reach u → b ≡ true → Place Integer reach u c
  integer e f i h =
      let s = cell reach R u e f refl i h in
      record { usable = s.usable; reached = s.reached; below = s.below; first = s.floor }

  pub nearest :
      {z : Float} {c : ℕ} {b : Bool} → z ≡ cond (has_place reach u) (u ⊖ half ⊕ half) nought → floorℤ z ≡ pos c
      → b ≡ has_place reach u → b ≡ true → Place Nearest reach u c
  nearest {z} {c} e f i h =
      let j : has_place reach u ≡ true = sym i ∙ h in
      let test : T (has_place reach u) = subst T (sym j) tt in
      let usable = nearby_usable reach R u test in
      let w = nearby_floored reach R u test in
      let g : floorℤ (u ⊖ half ⊕ half) ≡ pos c =
      ap floorℤ (sym (e ∙ ap (λ (b : Bool). cond b (u ⊖ half ⊕ half) nought) j)) ∙ f in
      record {
        usable = usable;
        reached = usable_reached u usable;
        below = subst (λ (n : ℕ). n < reach) (ap nat_abs (sym w.floor ∙ g)) w.below;
        first = floor_integer (u ⊖ half ⊕ half) w.domain ∙ g;
      }

-- ---- the first k of two arrays
pub record Placing (i : Interpolation) (reach k : ℕ) (good : Bool) (us : List Float) (cs : List ℕ) : Type 0 where
  pub done : good ≡ true → Places i reach k us cs
  pub long : length cs ≡ 64

module _ (i : Interpolation) (reach : ℕ) where
  pub place_none : (good : Bool) {us : List Float} {cs : List ℕ} → length cs ≡ 64 → Placing i reach 0 good us cs
  place_none good a = record { done = λ h. record { place = λ k h. absurd (not-suc-le-zero h) }; long = a }

  pub place_more :
      (k : ℕ) {good b : Bool} {us : List Float} {cs : List ℕ} {c : ℕ} → k < 64
      → (b ≡ true → Place i reach (get_or us k nan) c) →
      Placing i reach k good us cs → Placing i reach (k + 1) (good && b) us (set cs k c)
  place_more k {good} {b} {us} {cs} {c} l new old =
      record {
        done = λ h.
            let d = old.done (both good b h).0 in
            record {
              place =
                  below_more (λ (j : ℕ). Place i reach (get_or us j nan) (get_or (set cs k c) j 0)) k
                  (λ j g. rw (get_or-set_other cs k j c 0 (below j g)) (d.place j g))
                  (rw (get_or-set_same cs k c 0 (rw old.long l)) (new (both good b h).1));
            };
        long = length-set cs k c ∙ old.long;
      }
    where
      below : (j : ℕ) → j < k → j ≢ k
      below j h e = omega arith

  pub place_last : (k n : ℕ) (good : Bool) {us : List Float} {cs : List ℕ} → n ≤ k → Placing i reach k good us cs
      → good ≡ true → Places i reach n us cs
  place_last k n good a s h = record { place = λ j g. (s.done h).place j (omega arith) }
