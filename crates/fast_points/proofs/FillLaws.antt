-- Lists that a loop fills: a store more makes the part that is done longer by one; and so a span of source points
-- grows by the coordinates of one more. Assumes nothing.
use mathlib.Core.Path.{◌≡◌, refl, ap, ◌∙◌}
use mathlib.Core.Logic.{◌≢◌}
use mathlib.Core.List.{List}
use Prim.Native.Nat.{ℕ, ◌+◌, ◌≤◌, ◌<◌}
use native.Mathlib.Nat.{not-suc-le-zero}
use native.Mathlib.Omega.{arith}
use borrow.Author.Count.{below_more}
use lib.ListN.{length, set, length-set}
use lib.Seq.{get_or-set_same, get_or-set_other}
use lib.Ieee.{Float, nan}
use Rattle.exact.specs.Vector.{at}
use Rattle.point.specs.declared.point.Point.{Point}
use Rattle.point.specs.Point.{point, Whole}
use Rattle.fast_points.specs.Points.{pixel_middle, KeptBy, KeptPoints}

others : {i k : ℕ} → i < k → i ≢ k
others h e = omega arith

-- ---- two lists, a store more in each
module _ (P : ℕ → Float → Float → Type 0) where
  pub both_more : (k : ℕ) (xs ys : List Float) {x y : Float} → length xs ≡ 64 → length ys ≡ 64 → k < 64 → P k x y
      → ((i : ℕ) → i < k → P i (at xs i) (at ys i)) → (i : ℕ) → i < k + 1 → P i (at (set xs k x) i) (at (set ys k y) i)
  both_more k xs ys {x} {y} a b h p old =
      below_more (λ (i : ℕ). P i (at (set xs k x) i) (at (set ys k y) i)) k
      (λ i g. rw (get_or-set_other xs k i x nan (others g), get_or-set_other ys k i y nan (others g)) (old i g))
      (rw (get_or-set_same xs k x nan (rw a h), get_or-set_same ys k y nan (rw b h)) p)

-- the point that is read back is the one whose coordinates were stored
pub read_back : {p q : Point} → p ≡ q → Whole q → q ≡ point p.u p.v
read_back e w = rw e w.whole

-- ---- points
-- what a loop knows after k turns: k points of a rule are there, in lists of 64 places
pub record Keeping (post : ℕ → Point → Type 0) (k : ℕ) (us vs : List Float) : Type 0 where
  pub done : KeptBy post k us vs
  pub long_u : length us ≡ 64
  pub long_v : length vs ≡ 64

module _ (post : ℕ → Point → Type 0) where
  pub keep_none : {us vs : List Float} → length us ≡ 64 → length vs ≡ 64 → Keeping post 0 us vs
  keep_none a b = record { done = record { kept = λ k h. absurd (not-suc-le-zero h) }; long_u = a; long_v = b }

  pub keep_more : (k : ℕ) {us vs : List Float} {p : Point} → post k p → k < 64
      → Keeping post k us vs → Keeping post (k + 1) (set us k p.u) (set vs k p.v)
  keep_more k {us} {vs} {p} e l old =
      record {
        done = record {
          kept =
              both_more (λ (i : ℕ) (u v : Float). (q : Point) × post i q × (q.u ≡ u) × (q.v ≡ v)) k us vs old.long_u
              old.long_v l (p, e, refl, refl) old.done.kept;
        };
        long_u = length-set us k _ ∙ old.long_u;
        long_v = length-set vs k _ ∙ old.long_v;
      }

  pub keep_last : (k n : ℕ) {us vs : List Float} → n ≤ k → Keeping post k us vs → KeptBy post n us vs
  keep_last k n a s = record { kept = λ i h. s.done.kept i (omega arith) }

  -- what the rule gives, it gives whole
  pub kept_points : (g : ℕ → Point) (n : ℕ) {us vs : List Float}
      → ((k : ℕ) → k < n → (p : Point) → post k p → p ≡ g k) → ((k : ℕ) → Whole (g k))
      → KeptBy post n us vs → KeptPoints g n us vs
  kept_points g n same whole s = record {
    kept = λ k h.
        let q = s.kept k h in
        read_back (same k h q.0 q.1) (whole k) ∙ ap (λ (u : Float). point u q.0.v) q.2 ∙ ap (point _) q.3;
  }

-- ---- the same of points that a function numbers
-- what a loop knows after k turns
pub record Filling (g : ℕ → Point) (k : ℕ) (us vs : List Float) : Type 0 where
  pub done : KeptPoints g k us vs
  pub long_u : length us ≡ 64
  pub long_v : length vs ≡ 64

module _ (g : ℕ → Point) where
  pub fill_none : {us vs : List Float} → length us ≡ 64 → length vs ≡ 64 → Filling g 0 us vs
  fill_none a b = record { done = record { kept = λ k h. absurd (not-suc-le-zero h) }; long_u = a; long_v = b }

  pub fill_more : (k : ℕ) {us vs : List Float} {p : Point} → p ≡ g k → Whole (g k) → k < 64
      → Filling g k us vs → Filling g (k + 1) (set us k p.u) (set vs k p.v)
  fill_more k {us} {vs} e w l old =
      record {
        done = record {
          kept =
              both_more (λ (i : ℕ) (u v : Float). g i ≡ point u v) k us vs old.long_u old.long_v l
              (read_back e w) old.done.kept;
        };
        long_u = length-set us k _ ∙ old.long_u;
        long_v = length-set vs k _ ∙ old.long_v;
      }

  pub fill_last : (k n : ℕ) {us vs : List Float} → n ≤ k → Filling g k us vs → KeptPoints g n us vs
  fill_last k n a s = record { kept = λ i h. s.done.kept i (omega arith) }

-- those of a function of the pixels' middles
pub fill_span : (f : Float → Point) (x : Float) (first : ℕ) → ((a : Float) → Whole (f a)) → (k : ℕ)
    {us vs : List Float} {a : Float} {p : Point} → a ≡ pixel_middle (first + k) x → p ≡ f a → k < 64
    → Filling (λ (i : ℕ). f (pixel_middle (first + i) x)) k us vs
    → Filling (λ (i : ℕ). f (pixel_middle (first + i) x)) (k + 1) (set us k p.u) (set vs k p.v)
fill_span f x first w k e g = fill_more (λ (i : ℕ). f (pixel_middle (first + i) x)) k (g ∙ ap f e) (w _)
