-- A span inside: the mean in a point's own cell is what `interpolate` shows there. Provides: `are_sized`, `put`,
-- `Weighing`, `weigh_none`, `weigh_more`, `weigh_last` (the loop over weights); `marked` (a point that can be used);
-- `blend_all`, `mixable` (the colours of cells); `cells_units`, `cells_shown`, `places_shown` (from cells and places to
-- the band's definition). Assumes nothing.
use mathlib.Core.Path.{◌≡◌, refl, sym, ◌∙◌, subst}
use mathlib.Core.Logic.{◌≢◌}
use mathlib.Core.Bool.{Bool, true, false, ◌&&◌}
use mathlib.Core.List.{List, [], ◌∷◌}
use Prim.Native.Nat.{ℕ, zero, suc, ◌+◌, ◌-◌, ◌≤◌, ◌<◌}
use native.Mathlib.Nat.{not-suc-le-zero}
use native.Mathlib.Omega.{arith}
use borrow.Author.Count.{below_more}
use lib.Dec.{T, lit≤}
use lib.ListN.{length, get_or, set, length-set}
use lib.Seq.{get_or-set_same, get_or-set_other}
use lib.Ieee.{Float, nan}
use base.Fml.{Fml}
use mir.Val.{Val}
use denote.Array.{each, in_array}
use denote.Shadow.{shadow}
use Rattle.exact.specs.Double.{◌⊖◌, usable_limit}
use Rattle.exact.specs.Warp.{half}
use Rattle.exact.specs.Vector.{at}
use Rattle.number.specs.Magnitude.{within}
use Rattle.picture.specs.Pixel.{Picture, pixel_at}
use Rattle.picture.specs.declared.colour.Rgba.{Rgba}
use Rattle.point.specs.Point.{usable}
use Rattle.taps.specs.Interpolation.{interpolation, code_of, bilinear_code, Single}
use Rattle.taps.specs.declared.interpolation.Interpolation.{Interpolation}
use Rattle.taps.proofs.InterpolationCode.{interpolation_code}
use Rattle.taps.proofs.CellFloor.{cell_law}
use Rattle.fast_cells.specs.Cells.{CellOf, Cells, Place, Places}
use Rattle.sampler.specs.Interpolate.{interpolate}
use Rattle.sampler.specs.TwoByTwo.{Weighed, cell_colour}
use Rattle.sampler.proofs.MixedLaws.{mixed_blend}
use Rattle.sampler.proofs.InsideLaws.{bilinear_inside, single_inside}
use Rattle.band.specs.Band.{put_pixels}
use Rattle.band.specs.Image.{image_of}
use Rattle.fast_colours.specs.InsideSpan.{CellsInside, Fractions, Sized, Weights, mixed_at, blend_at, Mixable}
use Rattle.band.proofs.InnerLaws.{Shows, put_same}
use Rattle.fast_colours.proofs.NumberLaws.{blend_numbers}

-- ---- the loop over weights
-- what a function is told of an array of arrays that it takes by value
pub are_sized : (f : Float → List Val → Fml) (w : List (List Float)) {m : ℕ} (us : List Val) → length w ≡ m
    → shadow (each (List Float) (in_array Float f 64) w us) → Sized m w
are_sized f w us e h = record { lists = e; places = λ i l. long w us h i (rw e l) }
  where
    long : (w : List (List Float)) (us : List Val) → shadow (each (List Float) (in_array Float f 64) w us) → (i : ℕ)
        → i < length w → length (get_or w i []) ≡ 64
    long [] us h i l = absurd (not-suc-le-zero l)
    long (v ∷ w) [] h i l = absurd h
    long (v ∷ w) (u ∷ us) h zero l = h.0.1.0.1
    long (v ∷ w) (u ∷ us) h (suc i) l = long w us h.1 i (omega arith)

-- five lists of 64 places
pub data Five : List (List Float) → Type 0 where
  five : {v₀ v₁ v₂ v₃ v₄ : List Float} → length v₀ ≡ 64 → length v₁ ≡ 64 → length v₂ ≡ 64 → length v₃ ≡ 64
      → length v₄ ≡ 64 → Five (v₀ ∷ v₁ ∷ v₂ ∷ v₃ ∷ v₄ ∷ [])

are_five : (w : List (List Float)) → Sized 5 w → Five w
are_five (v₀ ∷ v₁ ∷ v₂ ∷ v₃ ∷ v₄ ∷ []) S =
    five (S.places 0 (lit≤ tt)) (S.places 1 (lit≤ tt)) (S.places 2 (lit≤ tt)) (S.places 3 (lit≤ tt))
    (S.places 4 (lit≤ tt))
are_five [] S = absurd (omega (arith, S.lists))
are_five (v₀ ∷ []) S = absurd (omega (arith, S.lists))
are_five (v₀ ∷ v₁ ∷ []) S = absurd (omega (arith, S.lists))
are_five (v₀ ∷ v₁ ∷ v₂ ∷ []) S = absurd (omega (arith, S.lists))
are_five (v₀ ∷ v₁ ∷ v₂ ∷ v₃ ∷ []) S = absurd (omega (arith, S.lists))
are_five (v₀ ∷ v₁ ∷ v₂ ∷ v₃ ∷ v₄ ∷ v₅ ∷ w) S = absurd (omega (arith, S.lists))

-- w[i][k] = x
abbrev pub put : List (List Float) → ℕ → ℕ → Float → List (List Float)
put w i k x = set w i (set (get_or w i []) k x)

-- what the loop knows after k turns: k points are weighed
pub record Weighing (k : ℕ) (xs ys : List Float) (w : List (List Float)) : Type 0 where
  pub done : Weights k xs ys w
  pub long : Five w

module _ {xs ys : List Float} where
  pub weigh_none : {w : List (List Float)} → Sized 5 w → Weighing 0 xs ys w
  weigh_none S = record { done = record { weighed = λ k h. absurd (not-suc-le-zero h) }; long = are_five _ S }

  pub weigh_more : {w : List (List Float)} (k : ℕ) → k < 64 → {a b c d s : Float}
      → Weighed (at xs k) (at ys k) a b c d s → Weighing k xs ys w
      → Weighing (k + 1) xs ys (put (put (put (put (put w 0 k a) 1 k b) 2 k c) 3 k d) 4 k s)
  weigh_more {w} k l {a} {b} {c} {d} {s} new old = go old.long old.done
    where
      below : (i : ℕ) → i < k → i ≢ k
      below i h e = omega arith

      go : {w : List (List Float)} → Five w → Weights k xs ys w
          → Weighing (k + 1) xs ys (put (put (put (put (put w 0 k a) 1 k b) 2 k c) 3 k d) 4 k s)
      go (five {v₀} {v₁} {v₂} {v₃} {v₄} l₀ l₁ l₂ l₃ l₄) W =
          record {
            done = record {
              weighed =
                  below_more (λ (i : ℕ). Weighed (at xs i) (at ys i) (at (set v₀ k a) i) (at (set v₁ k b) i)
                  (at (set v₂ k c) i) (at (set v₃ k d) i) (at (set v₄ k s) i)) k
                  (λ i h. rw (
                    get_or-set_other v₀ k i a nan (below i h),
                    get_or-set_other v₁ k i b nan (below i h),
                    get_or-set_other v₂ k i c nan (below i h),
                    get_or-set_other v₃ k i d nan (below i h),
                    get_or-set_other v₄ k i s nan (below i h),
                  ) (W.weighed i h))
                  (rw (
                    get_or-set_same v₀ k a nan (rw l₀ l),
                    get_or-set_same v₁ k b nan (rw l₁ l),
                    get_or-set_same v₂ k c nan (rw l₂ l),
                    get_or-set_same v₃ k d nan (rw l₃ l),
                    get_or-set_same v₄ k s nan (rw l₄ l),
                  ) new);
            };
            long = five (length-set v₀ k a ∙ l₀) (length-set v₁ k b ∙ l₁) (length-set v₂ k c ∙ l₂)
                (length-set v₃ k d ∙ l₃) (length-set v₄ k s ∙ l₄);
          }

  pub weigh_last : {w : List (List Float)} (k n : ℕ) → n ≤ k → Weighing k xs ys w → Weights n xs ys w
  weigh_last k n a s = record { weighed = λ i h. s.done.weighed i (omega arith) }

-- ---- a point's own cell
both : (a b : Bool) → T a → T b → a && b ≡ true
both true true s t = refl
both true false s t = absurd t
both false b s t = absurd s

next : (i n : ℕ) → i < n - 1 → i + 1 < n
next i n l = omega arith

pub marked : (u v : Float) → T (within usable_limit u) → T (within usable_limit v) → usable u v ≡ true
unfolding usable
marked u v a b = both (within usable_limit u) (within usable_limit v) a b

cell_colour_law : (bytes : List ℕ) (w h n policy : ℕ) (background : Rgba) {u v tx ty : Float} {i j : ℕ}
    → CellOf (w - 1) u i tx → CellOf (h - 1) v j ty
    → cell_colour bytes w n i j tx ty ≡ interpolate bytes w h n policy bilinear_code background (u ⊖ half) (v ⊖ half)
unfolding cell_colour
cell_colour_law bytes w h n policy background {u} {v} {tx} {ty} {i} {j} C D =
    bilinear_inside bytes w h n policy background (u ⊖ half) (v ⊖ half) i j (next i w C.below)
    (next j h D.below) (sym C.floor) (sym D.floor) C.fraction D.fraction refl

-- ---- a span of them
module _ (bytes : List ℕ) (w channels : ℕ) (columns rows : List ℕ) {n : ℕ} {xs ys : List Float}
    {ws : List (List Float)} where
  pub blend_all : Fractions n xs → Fractions n ys → Weights n xs ys ws → (pixel : ℕ) (band : List ℕ)
      → put_pixels channels (mixed_at bytes w channels columns rows ws) n pixel band
      ≡ put_pixels channels (blend_at bytes w channels columns rows xs ys) n pixel band
  blend_all X Y W pixel band =
      put_same channels (mixed_at bytes w channels columns rows ws) (blend_at bytes w channels columns rows xs ys) n
      pixel band
      (λ k l. mixed_blend bytes w channels (get_or columns k 0) (get_or rows k 0) (at xs k) (at ys k) (X.unit k l)
      (Y.unit k l) (W.weighed k l))

  pub mixable : (h : ℕ) → Picture bytes w h channels → CellsInside w h n columns rows → Fractions n xs → Fractions n ys
      → Weights n xs ys ws → Mixable bytes w channels n columns rows ws
  mixable h P I X Y W =
      record {
        numbers = λ k l.
            rw (mixed_blend bytes w channels (get_or columns k 0) (get_or rows k 0) (at xs k) (at ys k) (X.unit k l)
            (Y.unit k l) (W.weighed k l))
            (blend_numbers bytes w h channels (get_or columns k 0) (get_or rows k 0) P (I.column k l) (I.row k l)
            (at xs k) (at ys k) (X.unit k l) (Y.unit k l));
      }

pub cells_units : {reach n : ℕ} {us : List Float} {cs : List ℕ} {ts : List Float} → Cells reach n us cs ts
    → Fractions n ts
cells_units {reach} {n} {us} {cs} {ts} C =
    record { unit = λ k l. rw (C.cell k l).fraction (cell_law (at us k ⊖ half) (C.cell k l).reached).fraction }

module _ (w h : ℕ) {n : ℕ} {us vs : List Float} {columns rows : List ℕ} {xs ys : List Float}
    (C : Cells (w - 1) n us columns xs) (D : Cells (h - 1) n vs rows ys) where
  pub cells_shown : (bytes : List ℕ) (channels : ℕ)
      → Shows (image_of bytes w h channels) bilinear_code n us vs (blend_at bytes w channels columns rows xs ys)
  cells_shown bytes channels = record {
    marked = λ k l. marked (at us k) (at vs k) (C.cell k l).usable (D.cell k l).usable;
    same = λ k l policy background. cell_colour_law bytes w h channels policy background (C.cell k l) (D.cell k l);
  }

-- ---- one tap
place_colour : (bytes : List ℕ) (w h channels policy : ℕ) (background : Rgba) (code : ℕ) → Single code
    → {u v : Float} {i j : ℕ} → Place (interpolation code) w u i → Place (interpolation code) h v j
    → pixel_at bytes w channels i j ≡ interpolate bytes w h channels policy code background (u ⊖ half) (v ⊖ half)
place_colour bytes w h channels policy background code small {u} {v} {i} {j} C D =
    single_inside bytes w h channels policy background (u ⊖ half) (v ⊖ half) code small i j C.below D.below
    (sym C.first) (sym D.first) refl

module _ (i : Interpolation) {w h n : ℕ} {us vs : List Float} {columns rows : List ℕ}
    (C : Places i w n us columns) (D : Places i h n vs rows) where
  by_code : {reach : ℕ} {u : Float} {c : ℕ} → Place i reach u c → Place (interpolation (code_of i)) reach u c
  by_code {reach} {u} {c} = subst (λ (j : Interpolation). Place j reach u c) (sym (interpolation_code i))

  pub places_shown : (bytes : List ℕ) (channels : ℕ) → Single (code_of i)
      → Shows (image_of bytes w h channels) (code_of i) n us vs
      (λ (k : ℕ). pixel_at bytes w channels (get_or columns k 0) (get_or rows k 0))
  places_shown bytes channels small = record {
    marked = λ k l. marked (at us k) (at vs k) (C.place k l).usable (D.place k l).usable;
    same = λ k l policy background.
        place_colour bytes w h channels policy background (code_of i) small (by_code (C.place k l)) (by_code (D.place k l));
  }
