-- The laws of filled arrays: what a turn stores is a cell, a store more makes the span longer by one, and once the
-- answer is false nothing is claimed. Assumes nothing.
use mathlib.Core.Path.{◌≡◌, sym, ap, ◌∙◌, subst}
use mathlib.Core.Logic.{◌≢◌}
use mathlib.Core.Bool.{Bool, true, cond, ◌&&◌}
use mathlib.Core.List.{List}
use Prim.Native.Nat.{ℕ, ◌+◌, ◌≤◌, ◌<◌}
use native.Mathlib.Nat.{not-suc-le-zero}
use native.Mathlib.Omega.{arith}
use borrow.Author.Count.{below_more}
use lib.Dec.{T}
use lib.IntN.{pos, nat_abs}
use lib.ListN.{get_or, length, set, length-set}
use lib.Seq.{get_or-set_same, get_or-set_other}
use lib.Ieee.{Float, nan}
use lib.Ieee.Bits.{is_true}
use Rattle.exact.specs.Double.{◌⊖◌, usable_limit}
use Rattle.exact.specs.Warp.{half}
use Rattle.exact.proofs.Booleans.{both}
use Rattle.number.specs.Floor.{floorℤ}
use Rattle.number.specs.Magnitude.{within}
use Rattle.number.proofs.FloorLaws.{floor_integer}
use Rattle.point.specs.declared.point.Point.{Point}
use Rattle.point.specs.Point.{usable, point, Whole}
use Rattle.taps.specs.Cell as Taps
use Rattle.taps.proofs.CellFloor.{usable_reached}
use Rattle.fast_cells.specs.Cells.{CellOf, Cells}
use Rattle.fast_cells.specs.Inner.{nought, has_cell}
use Rattle.fast_cells.proofs.InnerLaws.{floored_of, usable_of}

-- ---- one cell
module _ (reach : ℕ) (R : reach ≤ 65536) (u : Float) where
  pub cell :
      {z : Float} {c : ℕ} {t : Float} {b : Bool} → z ≡ cond (has_cell reach u) (u ⊖ half) nought → floorℤ z ≡ pos c
      → t ≡ Taps.fraction z → b ≡ has_cell reach u → b ≡ true → CellOf reach u c t
  cell {z} {c} {t} e f g i h =
      let j : has_cell reach u ≡ true = sym i ∙ h in
      let k : z ≡ u ⊖ half = e ∙ ap (λ (b : Bool). cond b (u ⊖ half) nought) j in
      let test : T (has_cell reach u) = subst T (sym j) tt in
      let usable = usable_of reach R u test in
      let w = floored_of reach R u test in
      let f' : floorℤ (u ⊖ half) ≡ pos c = ap floorℤ (sym k) ∙ f in
      record {
        usable = usable;
        reached = usable_reached u usable;
        below = subst (λ (n : ℕ). n < reach) (ap nat_abs (sym w.floor ∙ f')) w.below;
        floor = floor_integer (u ⊖ half) w.domain ∙ f';
        fraction = g ∙ ap Taps.fraction k;
      }

-- ---- a point
-- the mark of a point whose coordinates can be used
pub marked : (p : Point) → Whole p → T (within usable_limit p.u) → T (within usable_limit p.v) → p.usable ≡ true
unfolding usable
marked p w a b =
    ap (λ (q : Point). q.usable) w.whole
    ∙ ap (λ (t : Bool). t && within usable_limit p.v) (is_true (within usable_limit p.u) a)
    ∙ is_true (within usable_limit p.v) b

-- a point of which both coordinates pass: what each test tells, and the mark
pub of_both : {P Q : Type 0} (p : Point) → Whole p → {a b s t : Bool} → a ≡ s → b ≡ t
    → (P → T (within usable_limit p.u))
    → (Q → T (within usable_limit p.v)) → (a ≡ true → P) → (b ≡ true → Q)
    → ((a && b) ≡ (s && t)) × (((a && b) ≡ true → p.usable ≡ true) × ((a && b) ≡ true → P × Q))
of_both p w {a} {b} i j f g P Q = (
  rw (i, j),
  (
    λ h. marked p w (f (P (both a b h).0)) (g (Q (both a b h).1)),
    λ h. (P (both a b h).0, Q (both a b h).1),
  ),
)

-- what is known of the point that is read back is known of its coordinates
pub of_point : (P Q : Float → Type 0) {p : Point} {u v : Float} {b : Bool} → p ≡ point u v
    → (b ≡ true → P p.u × Q p.v)
    → b ≡ true → P u × Q v
of_point P Q {p} {u} {v} {b} e h = subst (λ (p : Point). b ≡ true → P p.u × Q p.v) e h

-- ---- the first k of three arrays
pub record Filling (reach k : ℕ) (good : Bool) (us : List Float) (cs : List ℕ) (ts : List Float) : Type 0 where
  pub done : good ≡ true → Cells reach k us cs ts
  pub long_c : length cs ≡ 64
  pub long_t : length ts ≡ 64

module _ (reach : ℕ) where
  pub fill_none : (good : Bool) {us : List Float} {cs : List ℕ} {ts : List Float} → length cs ≡ 64 → length ts ≡ 64
      → Filling reach 0 good us cs ts
  fill_none good a b = record {
    done = λ h. record { cell = λ k h. absurd (not-suc-le-zero h) };
    long_c = a;
    long_t = b;
  }

  pub fill_more :
      (k : ℕ) {good b : Bool} {us : List Float} {cs : List ℕ} {ts : List Float} {c : ℕ} {t : Float} → k < 64
      → (b ≡ true → CellOf reach (get_or us k nan) c t) →
      Filling reach k good us cs ts → Filling reach (k + 1) (good && b) us (set cs k c) (set ts k t)
  fill_more k {good} {b} {us} {cs} {ts} {c} {t} l new old =
      record {
        done = λ h.
            let d = old.done (both good b h).0 in
            record {
              cell =
                  below_more
                  (λ (i : ℕ). CellOf reach (get_or us i nan) (get_or (set cs k c) i 0) (get_or (set ts k t) i nan)) k
                  (λ i g. rw (get_or-set_other cs k i c 0 (below i g), get_or-set_other ts k i t nan (below i g))
                  (d.cell i g))
                  (rw (get_or-set_same cs k c 0 (rw old.long_c l), get_or-set_same ts k t nan (rw old.long_t l))
                  (new (both good b h).1));
            };
        long_c = length-set cs k c ∙ old.long_c;
        long_t = length-set ts k t ∙ old.long_t;
      }
    where
      below : (i : ℕ) → i < k → i ≢ k
      below i h e = omega arith

  pub fill_last :
      (k n : ℕ) (good : Bool) {us : List Float} {cs : List ℕ} {ts : List Float} → n ≤ k → Filling reach k good us cs ts
      → good ≡ true → Cells reach n us cs ts
  fill_last k n good a s h = record { cell = λ i g. (s.done h).cell i (omega arith) }
