-- The weights of a span: between a cell's ends the four weights are those of known pieces, and a turn more weighs a
-- fraction more. Provides: `Weighing4`, `weigh4_none`, `weigh4_more`, `weigh4_last` (the loop); `kernel_catrom`,
-- `kernel_spline` (by the code). Assumes nothing.
use mathlib.Core.Path.{◌≡◌, sym, ◌∙◌}
use mathlib.Core.Logic.{◌≢◌}
use mathlib.Core.Bool.{Bool, true, ◌&&◌}
use mathlib.Core.List.{List, [], ◌∷◌}
use Prim.Native.Nat.{ℕ, ◌+◌, ◌≤◌, ◌<◌}
use native.Mathlib.Nat.{not-suc-le-zero}
use native.Mathlib.Omega.{arith}
use borrow.Author.Count.{below_more}
use lib.Dec.{lit≤}
use lib.ListN.{length, set, length-set}
use lib.Seq.{get_or-set_same, get_or-set_other}
use lib.Ieee.{Float, nan}
use Rattle.exact.specs.Vector.{at}
use Rattle.exact.proofs.Booleans.{both}
use Rattle.cubic.specs.declared.cubic.CubicRow.{CubicRow}
use Rattle.cubic.specs.Cubic.{catrom_row, spline_row, cubic_weights}
use Rattle.taps.specs.Interpolation.{code_of, catrom_code}
use Rattle.taps.specs.declared.interpolation.Interpolation.{Interpolation}
use Rattle.taps.specs.declared.interpolation.Interpolation.TheVariants.{Catrom}
use Rattle.sampler.specs.Sixteen.{kernel_of}
use Rattle.sampler.proofs.SixteenCode as Code
use Rattle.fast_colours.specs.InsideSpan.{Sized}
use Rattle.fast_colours.proofs.InsideSpanLaws.{put}
use Rattle.fast_cubic.specs.Kernels.{Weighed4, Kernels}

-- ---- the loop over weights
-- four lists of 64 places
pub data Four : List (List Float) → Type 0 where
  four : {v₀ v₁ v₂ v₃ : List Float} → length v₀ ≡ 64 → length v₁ ≡ 64 → length v₂ ≡ 64 → length v₃ ≡ 64
      → Four (v₀ ∷ v₁ ∷ v₂ ∷ v₃ ∷ [])

are_four : (w : List (List Float)) → Sized 4 w → Four w
are_four (v₀ ∷ v₁ ∷ v₂ ∷ v₃ ∷ []) S =
    four (S.places 0 (lit≤ tt)) (S.places 1 (lit≤ tt)) (S.places 2 (lit≤ tt)) (S.places 3 (lit≤ tt))
are_four [] S = absurd (omega (arith, S.lists))
are_four (v₀ ∷ []) S = absurd (omega (arith, S.lists))
are_four (v₀ ∷ v₁ ∷ []) S = absurd (omega (arith, S.lists))
are_four (v₀ ∷ v₁ ∷ v₂ ∷ []) S = absurd (omega (arith, S.lists))
are_four (v₀ ∷ v₁ ∷ v₂ ∷ v₃ ∷ v₄ ∷ w) S = absurd (omega (arith, S.lists))

-- what the loop knows after k turns: k fractions are weighed if the answer is still true
pub record Weighing4 (row : CubicRow) (k : ℕ) (good : Bool) (ts : List Float) (w : List (List Float)) : Type 0 where
  pub done : good ≡ true → Weighed4 row k ts w
  pub long : Four w

module _ {row : CubicRow} {ts : List Float} where
  pub weigh4_none : {w : List (List Float)} → Sized 4 w → Weighing4 row 0 true ts w
  weigh4_none S = record {
    done = λ e. record { weights = λ k h. absurd (not-suc-le-zero h) };
    long = are_four _ S;
  }

  pub weigh4_more : {w : List (List Float)} (k : ℕ) → k < 64 → {good t : Bool} {p q r s : Float}
      → (t ≡ true → (p ∷ q ∷ r ∷ s ∷ []) ≡ cubic_weights (at ts k) row) → Weighing4 row k good ts w
      → Weighing4 row (k + 1) (good && t) ts (put (put (put (put w 0 k p) 1 k q) 2 k r) 3 k s)
  weigh4_more {w} k l {good} {t} {p} {q} {r} {s} new old = go old.long old.done
    where
      below : (i : ℕ) → i < k → i ≢ k
      below i h e = omega arith

      go : {w : List (List Float)} → Four w → (good ≡ true → Weighed4 row k ts w)
          → Weighing4 row (k + 1) (good && t) ts (put (put (put (put w 0 k p) 1 k q) 2 k r) 3 k s)
      go (four {v₀} {v₁} {v₂} {v₃} l₀ l₁ l₂ l₃) W =
          record {
            done = λ e.
                let g = both good t e in
                record {
                  weights =
                      below_more (λ (i : ℕ).
                      (at (set v₀ k p) i ∷ at (set v₁ k q) i ∷ at (set v₂ k r) i ∷ at (set v₃ k s) i ∷ [])
                      ≡ cubic_weights (at ts i) row) k
                      (λ i h. rw (
                        get_or-set_other v₀ k i p nan (below i h),
                        get_or-set_other v₁ k i q nan (below i h),
                        get_or-set_other v₂ k i r nan (below i h),
                        get_or-set_other v₃ k i s nan (below i h),
                      )
                      ((W g.0).weights i h))
                      (rw (
                        get_or-set_same v₀ k p nan (rw l₀ l),
                        get_or-set_same v₁ k q nan (rw l₁ l),
                        get_or-set_same v₂ k r nan (rw l₂ l),
                        get_or-set_same v₃ k s nan (rw l₃ l),
                      )
                      (new g.1));
                };
            long = four (length-set v₀ k p ∙ l₀) (length-set v₁ k q ∙ l₁) (length-set v₂ k r ∙ l₂)
                (length-set v₃ k s ∙ l₃);
          }

  pub weigh4_last : {w : List (List Float)} (k n : ℕ) {good : Bool} → n ≤ k → Weighing4 row k good ts w → good ≡ true
      → Weighed4 row n ts w
  weigh4_last k n a s e = record { weights = λ i h. (s.done e).weights i (omega arith) }

-- ---- by the code
module _ {n : ℕ} {ts : List Float} {w : List (List Float)} where
  pub kernel_catrom : Weighed4 catrom_row n ts w → Kernels catrom_code n ts w
  unfolding kernel_of
  kernel_catrom W = record { weights = W.weights }

  pub kernel_spline : (i : Interpolation) → i ≢ Catrom → Weighed4 spline_row n ts w → Kernels (code_of i) n ts w
  kernel_spline i e W = record { weights = λ k l. W.weights k l ∙ sym (Code.kernel_spline i (at ts k) e) }
