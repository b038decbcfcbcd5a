-- The laws of rows: the tests are the definition's, lengths and limits that are not wrong are those that the loops
-- ask for, a span's coordinates are written as its points, and a span more makes the row longer. Assumes
-- nothing.
use mathlib.Core.Path.{◌≡◌, sym, ap, ◌∙◌}
use mathlib.Core.Bool.{Bool, true, false, not, ◌||◌}
use mathlib.Core.List.{List}
use Prim.Native.Nat.{ℕ, ◌+◌, ◌-◌, ◌*◌, ◌≤◌, ◌<◌}
use native.Mathlib.Nat.{mul-le-mul}
use native.Mathlib.Omega.{arith}
use borrow.Author.Tests.{eqb-true, not-false, leb-true, ltb-false}
use lib.Dec.{eqb, ltb}
use lib.IntN.{ℤ, nat_abs}
use lib.Ieee.{Float}
use Rattle.exact.specs.Loop.{up_to}
use Rattle.exact.specs.Sums.{asked}
use Rattle.exact.proofs.Booleans.{or_false}
use Rattle.exact.proofs.Loop.{up_to_join, up_to_same}
use Rattle.inverse.specs.Inverse.{inverse}
use Rattle.inverse.specs.declared.frame.Frame.{Frame}
use Rattle.window.specs.Extent.{good_offset}
use Rattle.fast_points.specs.Points.{Points}
use Rattle.probe_points.specs.Pointed.{store_point}
use Rattle.probe_points.specs.Rows.{store_kept, store_column, wrong_rows}

-- ---- the tests
module _ (width : ℕ) (x y : ℤ) (first rows out : ℕ) where
  abbrev sides : Bool
  sides = ltb 4096 width || (ltb 4096 first || ltb 4096 rows)

  abbrev ends : Bool
  ends = ltb 4096 (first + rows) || not (eqb out (rows * width * 24))

  pub wrong_sides : sides ≡ true → true ≡ wrong_rows width x y first rows out
  unfolding wrong_rows
  wrong_sides h = rw h

  pub wrong_across : sides ≡ false → good_offset x ≡ false → true ≡ wrong_rows width x y first rows out
  unfolding wrong_rows
  wrong_across h k = rw (h, k)

  pub wrong_down : sides ≡ false → good_offset x ≡ true → good_offset y ≡ false
      → true ≡ wrong_rows width x y first rows out
  unfolding wrong_rows
  wrong_down h k l = rw (h, k, l)

  pub wrong_ends : sides ≡ false → good_offset x ≡ true → good_offset y ≡ true → ends ≡ wrong_rows width x y first rows out
  unfolding wrong_rows
  wrong_ends h k l = rw (h, k, l)

  -- sizes that are not wrong
  pub sized : sides ≡ false → (width ≤ 4096) × (first ≤ 4096) × (rows ≤ 4096)
  sized h =
      let t = or_false (ltb 4096 width) (ltb 4096 first || ltb 4096 rows) h in
      let u = or_false (ltb 4096 first) (ltb 4096 rows) t.1 in
      (ltb-false _ _ t.0, ltb-false _ _ u.0, ltb-false _ _ u.1)

  pub right : wrong_rows width x y first rows out ≡ false
      → ((width ≤ 4096) × (first + rows ≤ 4096))
      × (((nat_abs x ≤ 1048576) × (nat_abs y ≤ 1048576)) × (out ≡ rows * width * 24))
  unfolding wrong_rows good_offset
  right h =
      let a = or_false sides _ h in
      let b = or_false (not (good_offset x)) _ a.1 in
      let c = or_false (not (good_offset y)) _ b.1 in
      let d = or_false (ltb 4096 (first + rows)) _ c.1 in (
        ((sized a.0).0, ltb-false _ _ d.0),
        ((leb-true _ _ (not-false _ b.0), leb-true _ _ (not-false _ c.0)), eqb-true _ _ (not-false _ d.1)),
      )

pub product : (rows width : ℕ) → rows ≤ 4096 → width ≤ 4096 → rows * width ≤ 4096 * 4096
product rows width h k = mul-le-mul h k

-- ---- the points read back
module _ (f : Frame) (first j n place : ℕ) (us vs : List Float) (s : Points f first j n us vs) where
  column : (i : ℕ) (out : List ℕ) → first ≤ i → i < first + n
      → store_kept us vs first place i out ≡ store_column f.mapping.now f.x f.y j place i out
  unfolding store_kept store_column
  column i out l h =
      ap (store_point out ((place + i) * 24))
      (sym (s.kept (i - first) (omega arith))
      ∙ ap (λ (k : ℕ). inverse f.mapping.now.kind f.mapping.now.order f.mapping.now.count f.mapping.now.coef (asked k f.x) (asked j f.y))
      (back first i l))
    where
      back : (a b : ℕ) → a ≤ b → a + (b - a) ≡ b
      back a b l = omega arith

  pub span_is : (out : List ℕ)
      → up_to (store_kept us vs first place) first (first + n) out
      ≡ up_to (store_column f.mapping.now f.x f.y j place) first (first + n) out
  span_is out = up_to_same _ _ first (first + n) out (omega arith) column

-- ---- a span more
pub row_more : (step : ℕ → List ℕ → List ℕ) (i n : ℕ) (a : List ℕ) {b c : List ℕ} → b ≡ up_to step 0 i a
    → c ≡ up_to step i (i + n) b → c ≡ up_to step 0 (i + n) a
row_more step i n a e f = f ∙ ap (up_to step i (i + n)) e
    ∙ sym (up_to_join step 0 a i (i + n) (omega arith) (omega arith))
