-- Sums in order: as long as every partial sum stays below one power of two, each sum adds half an ulp of that power to
-- the error and to the size, so n terms within e of theirs add up to n times e and half an ulp. Provides: `Step` (one
-- rounding below a bound), `step_fine`, `add_near`, `mul_near`; `count_next`, `count_mono` (n times a fraction);
-- `sum_close`, the law over n; `summed_same` (equal terms). Assumes nothing.
use mathlib.Core.Path.{◌≡◌, refl, ap, ◌∙◌, subst}
use mathlib.Core.List.{[], ◌∷◌}
use Prim.Native.Nat.{ℕ, zero, suc, ◌*◌, ◌≤◌, ◌<◌, zero-le}
use native.Mathlib.Nat.{mul-pos}
use native.Mathlib.Numerals.{add-one}
use native.Mathlib.Omega.{arith}
use lib.Dec.{T, lit≤}
use lib.Ieee.{Float, Format, add, mul}
use lib.Ieee.Scale.{finite}
use Rattle.exact.specs.Loop.{up_to}
use Rattle.exact.specs.Fraction.{Fraction, frac, value, ◌≤F◌, ◌≈◌, ◌+F◌, ◌*F◌, abs_f}
use Rattle.exact.specs.Rounds.{Rounds, Close, fine}
use Rattle.exact.specs.Sums.{summed_f}
use Rattle.exact.proofs.Scale.{at_eq, at_le, le_at, at_add, at_mul, at_more, common}
use Rattle.exact.proofs.Near.{le_refl, le_trans, eq_le, within_same, within_add, add_mono, add_same}
use Rattle.exact.proofs.Products.{
  eq_refl,
  ◌⨟◌,
  back,
  at_zero,
  at_count,
  le_same,
  le_mul,
  add_comm,
  add_assoc,
  mul_comm,
  mul_zero,
}
use Rattle.exact.proofs.NearProducts.{abs_near, abs_self}
use Rattle.exact.proofs.Magnitude.{abs_alike}
use Rattle.exact.proofs.Operations.{add_rounds, mul_rounds}
use Rattle.exact.proofs.Steps.{close_more, close_move, abs_add}
use Rattle.exact.proofs.Bounds.{rounds_bound}
use Rattle.exact.proofs.Loop.{up_to_none, up_to_next}

-- ---- one rounding: what is at most B in size comes out within h, and at most B in size
pub record Step (f : Format) (h B : Fraction) : Type 0 where
  pub rounds : {r : Float} {X : Fraction} → Rounds f r X → abs_f X ≤F B → Close r X h B

pub step_fine : (f : Format) (K b d e g : ℕ) → T (fine f K b d e g) → Step f (frac e g) (frac b d)
step_fine f K b d e g t = record { rounds = λ R h. rounds_bound R K b d e g t h }

module _ {f : Format} {h B : Fraction} (step : Step f h B) where
  module _ {x y : Float} {X Y e g b d : Fraction} (c : Close x X e b) (c' : Close y Y g d) (k : b +F d ≤F B) where
    once : Close (add f x y) (value x +F value y) h B
    once =
        step.rounds (add_rounds f x y c.number c'.number)
        (le_trans (abs_f (value x +F value y)) (b +F d) B (abs_add (value x) (value y) b d c.small c'.small) k)

    pub add_near : Close (add f x y) (X +F Y) (h +F (e +F g)) B
    add_near = close_move once (within_add (value x) X (value y) Y e g c.near c'.near)

    -- the same with a size that is no power of two
    pub add_sized : Close (add f x y) (X +F Y) (h +F (e +F g)) (b +F d +F h)
    add_sized = record {
      number = add_near.number;
      near = add_near.near;
      small = abs_near (value (add f x y)) (value x +F value y) h (b +F d) once.near
          (abs_add (value x) (value y) b d c.small c'.small);
    }

  pub mul_near : (x y : Float) → T (finite x) → T (finite y) → abs_f (value x *F value y) ≤F B
      → Close (mul f x y) (value x *F value y) h B
  mul_near x y p q k = step.rounds (mul_rounds f x y p q) k

-- ---- n times a fraction
pub count_next : (n : ℕ) (x : Fraction) → frac n 1 *F x +F x ≈ frac (suc n) 1 *F x
count_next n x =
    common (x ∷ []) (λ D D0 ((_, _, X), _). at_eq (D * D) (mul-pos D0 D0)
    (at_add (at_mul (at_count D n) X) (at_more D D X)) (at_mul (at_count D (suc n)) X) (omega arith))

pub count_mono : (m n : ℕ) (x : Fraction) → m ≤ n → frac 0 1 ≤F x → frac m 1 *F x ≤F frac n 1 *F x
count_mono m n x h k = le_mul k (at_le 1 (lit≤ tt) (at_count 1 m) (at_count 1 n) (omega arith))

-- ---- the law over n
up_to_suc : {A : Type 0} (step : ℕ → A → A) (n : ℕ) (x : A) → step n (up_to step 0 n x) ≡ up_to step 0 (suc n) x
up_to_suc step n x = up_to_next step 0 x n zero-le refl ∙ ap (λ (k : ℕ). up_to step 0 k x) (add-one n)

module _ {f : Format} {h B : Fraction} (step : Step f h B) (h0 : frac 0 1 ≤F h) (z : Float) (z0 : T (finite z))
    (zv : value z ≈ frac 0 1) (t : ℕ → Float) (X : ℕ → Fraction) (e A : Fraction)
    (A0 : frac 0 1 ≤F A) where
  pub sum_close : (n : ℕ) → ((k : ℕ) → k < n → Close (t k) (X k) e A) → frac n 1 *F (A +F h) ≤F B
      → Close (up_to (λ (k : ℕ) (s : Float). add f s (t k)) 0 n z)
      (up_to (λ (k : ℕ) (s : Fraction). s +F X k) 0 n (frac 0 1)) (frac n 1 *F (e +F h)) (frac n 1 *F (A +F h))
  sum_close zero c k =
      subst (λ (r : Float). Close r (up_to plus 0 0 (frac 0 1)) (frac 0 1 *F (e +F h)) (frac 0 1 *F (A +F h)))
      (up_to_none more 0 z)
      (subst (λ (S : Fraction). Close z S (frac 0 1 *F (e +F h)) (frac 0 1 *F (A +F h))) (up_to_none plus 0 (frac 0 1))
      (record {
        number = z0;
        near = within_same (value z) (frac 0 1) (frac 0 1 *F (e +F h)) zv (none (e +F h));
        small = le_trans (abs_f (value z)) (frac 0 1) (frac 0 1 *F (A +F h))
            (le_trans (abs_f (value z)) (abs_f (frac 0 1)) (frac 0 1) (abs_alike (value z) (frac 0 1) zv)
            (abs_self (frac 0 1) (le_refl (frac 0 1) (frac 0 1)))) (none (A +F h));
      }))
    where
      more : ℕ → Float → Float
      more k s = add f s (t k)

      plus : ℕ → Fraction → Fraction
      plus k s = s +F X k

      none : (x : Fraction) → frac 0 1 ≤F frac 0 1 *F x
      none x = eq_le (frac 0 1) (frac 0 1 *F x) (back (mul_comm (frac 0 1) x ⨟ mul_zero x))
  sum_close (suc n) c k =
      let r : Float = up_to more 0 n z in
      let S : Fraction = up_to plus 0 n (frac 0 1) in
      let q : Close r S (frac n 1 *F (e +F h)) (frac n 1 *F (A +F h)) =
      sum_close n (λ j l. c j (less j n l))
      (le_trans (frac n 1 *F (A +F h)) (frac (suc n) 1 *F (A +F h)) B (count_mono n (suc n) (A +F h) (one n) both)
      k) in
      subst (λ (r : Float). Close r (up_to plus 0 (suc n) (frac 0 1)) (frac (suc n) 1 *F (e +F h))
      (frac (suc n) 1 *F (A +F h))) (up_to_suc more n z)
      (subst (λ (S : Fraction). Close (more n r) S (frac (suc n) 1 *F (e +F h)) (frac (suc n) 1 *F (A +F h)))
      (up_to_suc plus n (frac 0 1))
      (close_more (eq_le (h +F (frac n 1 *F (e +F h) +F e)) (frac (suc n) 1 *F (e +F h))
      (turn h (frac n 1 *F (e +F h)) e ⨟ count_next n (e +F h)))
      (eq_le (frac n 1 *F (A +F h) +F A +F h) (frac (suc n) 1 *F (A +F h))
      (add_assoc (frac n 1 *F (A +F h)) A h ⨟ count_next n (A +F h)))
      (add_sized step q (c n (self n)) below)))
    where
      more : ℕ → Float → Float
      more k s = add f s (t k)

      plus : ℕ → Fraction → Fraction
      plus k s = s +F X k

      less : (j n : ℕ) → j < n → j < suc n
      less j n h = omega arith

      self : (n : ℕ) → n < suc n
      self n = omega arith

      one : (n : ℕ) → n ≤ suc n
      one n = omega arith

      larger : (x y : Fraction) → frac 0 1 ≤F y → x ≤F x +F y
      larger x y h = common (x ∷ y ∷ []) (λ D D0 ((_, _, U), ((_, _, W), _)). let g = le_at D D0 (at_zero D) W h in
          at_le D D0 U (at_add U W) (omega arith))

      both : frac 0 1 ≤F A +F h
      both = le_trans (frac 0 1) A (A +F h) A0 (larger A h h0)

      below : frac n 1 *F (A +F h) +F A ≤F B
      below =
          le_trans (frac n 1 *F (A +F h) +F A) (frac n 1 *F (A +F h) +F (A +F h)) B
          (add_mono (frac n 1 *F (A +F h)) (frac n 1 *F (A +F h)) A (A +F h)
          (le_refl (frac n 1 *F (A +F h)) (frac n 1 *F (A +F h))) (larger A h h0))
          (le_same (back (count_next n (A +F h))) (eq_refl B) k)

      turn : (h y e : Fraction) → h +F (y +F e) ≈ y +F (e +F h)
      turn h y e = add_comm h (y +F e) ⨟ add_assoc y e h

-- equal terms have equal sums
pub summed_same : (X Y : ℕ → Fraction) (n : ℕ) → ((k : ℕ) → k < n → X k ≈ Y k) → summed_f X n ≈ summed_f Y n
summed_same X Y zero h =
    subst (λ (s : Fraction). s ≈ summed_f Y 0) (up_to_none (λ (k : ℕ) (s : Fraction). s +F X k) 0 (frac 0 1))
    (subst (λ (s : Fraction). frac 0 1 ≈ s) (up_to_none (λ (k : ℕ) (s : Fraction). s +F Y k) 0 (frac 0 1))
    (eq_refl (frac 0 1)))
summed_same X Y (suc n) h =
    subst (λ (s : Fraction). s ≈ summed_f Y (suc n)) (up_to_suc (λ (k : ℕ) (s : Fraction). s +F X k) n (frac 0 1))
    (subst (λ (s : Fraction). summed_f X n +F X n ≈ s) (up_to_suc (λ (k : ℕ) (s : Fraction). s +F Y k) n (frac 0 1))
    (add_same (summed_f X n) (summed_f Y n) (X n) (Y n) (summed_same X Y n (λ j l. h j (less j n l))) (h n (self n))))
  where
    less : (j n : ℕ) → j < n → j < suc n
    less j n h = omega arith

    self : (n : ℕ) → n < suc n
    self n = omega arith
