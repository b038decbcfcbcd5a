-- The laws of the barrels' lists: a store more makes each longer by one, and the three steps together are the points.
-- Assumes nothing.
use mathlib.Core.Path.{◌≡◌, ap, ◌∙◌}
use mathlib.Core.List.{List}
use Prim.Native.Nat.{ℕ, ◌+◌, ◌≤◌, ◌<◌}
use native.Mathlib.Nat.{not-suc-le-zero}
use native.Mathlib.Omega.{arith}
use lib.ListN.{length, set, length-set}
use lib.Ieee.{Float}
use Rattle.number.specs.Root.{root}
use Rattle.exact.specs.Vector.{Vector, at}
use Rattle.point.specs.declared.point.Point.{Point}
use Rattle.inverse.specs.Barrel.{across, down, radius_squared}
use Rattle.fast_points.specs.Points.{pixel_middle, KeptBy, KeptRow}
use Rattle.fast_points.proofs.FillLaws.{both_more}
use Rattle.fast_points.specs.Barrels.{ByRadiusAt, RadiiSquared, EachBy}

-- ---- the offsets and the squares
pub record Squaring (c : Vector) (x dy : Float) (first k : ℕ) (ds ss : List Float) : Type 0 where
  pub done : RadiiSquared c x dy first k ds ss
  pub long_d : length ds ≡ 64
  pub long_s : length ss ≡ 64

module _ (c : Vector) (x dy : Float) (first : ℕ) where
  pub square_none : {ds ss : List Float} → length ds ≡ 64 → length ss ≡ 64 → Squaring c x dy first 0 ds ss
  square_none a b = record { done = record { each = λ k h. absurd (not-suc-le-zero h) }; long_d = a; long_s = b }

  pub square_more : (k : ℕ) {ds ss : List Float} {a d s : Float} → a ≡ pixel_middle (first + k) x → d ≡ across c a
      → s ≡ radius_squared d dy → k < 64
      → Squaring c x dy first k ds ss → Squaring c x dy first (k + 1) (set ds k d) (set ss k s)
  square_more k {ds} {ss} e g q h old =
      record {
        done = record {
          each =
              both_more (λ (i : ℕ) (d s : Float). (d ≡ across c (pixel_middle (first + i) x))
              × (s ≡ radius_squared (across c (pixel_middle (first + i) x)) dy)) k ds ss
              old.long_d old.long_s h
              (rw (← e) (g, q ∙ ap (λ (z : Float). radius_squared z dy) g)) old.done.each;
        };
        long_d = length-set ds k _ ∙ old.long_d;
        long_s = length-set ss k _ ∙ old.long_s;
      }

  pub square_last : (k n : ℕ) {ds ss : List Float} → n ≤ k → Squaring c x dy first k ds ss
      → RadiiSquared c x dy first n ds ss
  square_last k n a s = record { each = λ i h. s.done.each i (omega arith) }

-- ---- a function of each: the guesses, and the roots
pub record Mapping (f : Float → Float) (k : ℕ) (xs ys : List Float) : Type 0 where
  pub done : EachBy f k xs ys
  pub long : length ys ≡ 64

module _ (f : Float → Float) (xs : List Float) where
  pub each_none : {ys : List Float} → length ys ≡ 64 → Mapping f 0 xs ys
  each_none a = record { done = record { each = λ k h. absurd (not-suc-le-zero h) }; long = a }

  pub each_more : (k : ℕ) {ys : List Float} {y : Float} → y ≡ f (at xs k) → k < 64 → Mapping f k xs ys
      → Mapping f (k + 1) xs (set ys k y)
  each_more k {ys} {y} e h old =
      record {
        done = record {
          each = both_more (λ (i : ℕ) (a b : Float). a ≡ f (at xs i)) k ys ys {y = y} old.long
              old.long h e old.done.each;
        };
        long = length-set ys k _ ∙ old.long;
      }

  pub each_last : (k n : ℕ) {ys : List Float} → n ≤ k → Mapping f k xs ys → EachBy f n xs ys
  each_last k n a s = record { each = λ i h. s.done.each i (omega arith) }

-- ---- the three steps together
radius : (c : Vector) (x dy : Float) (first n : ℕ) {ds ss rs : List Float} → RadiiSquared c x dy first n ds ss
    → EachBy root n ss rs
    → (k : ℕ) → k < n → at rs k ≡ root (radius_squared (across c (pixel_middle (first + k) x)) dy)
radius c x dy first n S R k h = R.each k h ∙ ap root (S.each k h).1

-- what a rule gives by the offsets and the radii, it gives at the pixels
pub barrel_span : (rule : Float → Float → Float → Point → Type 0) (c : Vector) (x y : Float) (first n : ℕ)
    {dy : Float} {ds ss rs us vs : List Float} {post : ℕ → Point → Type 0}
    → dy ≡ down c y → RadiiSquared c x dy first n ds ss → EachBy root n ss rs
    → ((k : ℕ) → k < n → (p : Point) → post k p → rule dy (at ds k) (at rs k) p)
    → KeptBy post n us vs → KeptRow (ByRadiusAt rule c y) x first n us vs
barrel_span rule c x y first n e S R given s = record {
  row = record {
    kept = λ k h.
        let q = s.kept k h in (
          q.0,
          rw (← e, ← radius c x _ first n S R k h, ← (S.each k h).0) (given k h q.0 q.1),
          q.2,
          q.3,
        );
  };
}
