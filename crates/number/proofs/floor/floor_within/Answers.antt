-- `number::floor::floor_within` meets its contract: f is the floor as a float, and x is not below it. Where f is not
-- below x either, the two are one float, but for zeros; a zero is its own floor. Assumes nothing.
use Rattle.std.proofs.Common.{◌≡◌, ℕ, zero, suc, ◌*◌, Bool, true, false, not, T, ℤ, pos, nat_abs, sym, refl, ap, ◌∙◌, subst, true≢false, zero-lt-suc, mul-pos, zero-mul, mul-one, lit≤, eqb→eq}
use lib.Ieee.{Float, nan, inf, fin, binary64, up, down, below, lt, fits, of_int, in_float}
use lib.Ieee.Fits.{up_pos, down_pos, of_int-fits}
use Rattle.exact.proofs.Value.{rescale}
use Rattle.exact.proofs.Operands.{lt_values}
use Rattle.exact.proofs.Order.{not_apart}
use Rattle.exact.proofs.Integer.{negative, of_int_value}
use Rattle.number.specs.Floor.{in_domain, is_zero, floorℤ, floor_f64}
use Rattle.number.proofs.FloorRound.{counts}
use Rattle.number.proofs.FloorCode.{rounded}
use Rattle.number.proofs.FloorLaws.{floor_zero, floor_float}
use Rattle.number.proofs.FloorValue.{floor_none, floor_counted}
use Rattle.number.proofs.floor.floor_within.Goals as goal

-- ---- the definition's answers
at : (x y : Float) → T (in_domain x) → (T (is_zero x) → y ≡ x) → (T (not (is_zero x)) → y ≡ of_int binary64 (floorℤ x))
    → y ≡ floor_f64 x
at x y d z n = go (is_zero x) z n (floor_zero x d) (floor_float x d)
  where
    go : (u : Bool) → (T u → y ≡ x) → (T (not u) → y ≡ of_int binary64 (floorℤ x)) → (T u → floor_f64 x ≡ x)
        → (T (not u) → floor_f64 x ≡ of_int binary64 (floorℤ x)) → y ≡ floor_f64 x
    go true z n f g = z tt ∙ sym (f tt)
    go false z n f g = n tt ∙ sym (g tt)

-- ---- a zero's floor is 0, which is not below it
level : (s : Bool) (m : ℕ) (e : ℤ) → m ≡ 0 → lt (of_int binary64 (pos 0)) (fin s m e) ≡ false
level s m e z =
    lt_values (of_int binary64 (pos 0)) (fin s m e) false s 0 0 1 (zero-lt-suc 0)
    (of_int_value binary64 (pos 0) (counts (pos 0) (lit≤ tt)))
    (refl, ap (λ (n : ℕ). n * up e * 1) z ∙ ap (λ (n : ℕ). n * 1) (zero-mul (up e)) ∙ sym (zero-mul (down e)))
    ∙ none s
  where
    none : (s : Bool) → below false 0 s 0 ≡ false
    none true = refl
    none false = refl

zero-floor : (x : Float) → T (is_zero x) → (floorℤ x ≡ pos 0) × (lt (of_int binary64 (pos 0)) x ≡ false)
unfolding is_zero
zero-floor nan z = absurd z
zero-floor (inf s) z = absurd z
zero-floor (fin s m e) z = (floor_none s m e z, level s m e (eqb→eq m 0 z))

-- ---- what is no zero, and neither below nor above a whole number, is that number
alike : (x : Float) (z : ℤ) → T (in_float binary64 z) → T (fits binary64 x) → T (in_domain x) → T (not (is_zero x))
    → T (not (lt x (of_int binary64 z))) → T (not (lt (of_int binary64 z) x)) → x ≡ of_int binary64 z
unfolding in_domain is_zero
alike nan z f p d n h g = absurd d
alike (inf s) z f p d n h g = absurd d
alike (fin s zero e) z f p d n h g = absurd n
alike (fin s (suc m) e) z f p d n h g =
    not_apart binary64 binary64 (fin s (suc m) e) (of_int binary64 z) s (negative z) (suc m * up e) (nat_abs z * down e)
    (down e) (down_pos e) (mul-pos (zero-lt-suc m) (up_pos e)) p (of_int-fits binary64 z) (refl, refl)
    (rescale (of_int binary64 z) (negative z) (nat_abs z) 1 (nat_abs z * down e) (down e) (zero-lt-suc 0)
    (sym (mul-one (nat_abs z * down e))) (of_int_value binary64 z f))
    h g

-- ---- x and its floor f
module _ (x f : Float) (e : f ≡ of_int binary64 (floorℤ x)) (d : T (in_domain x)) where
  below-x : lt f x ≡ true → f ≡ floor_f64 x
  below-x h = at x f d (λ t.
      absurd (true≢false (sym h ∙ ap (λ (y : Float). lt y x) (e ∙ ap (of_int binary64) (zero-floor x t).0)
      ∙ (zero-floor x t).1))) (λ t. e)

  own : T (fits binary64 x) → lt f x ≡ false → x ≡ floor_f64 x
  own p h = at x x d (λ t. refl)
      (λ t. alike x (floorℤ x) (floor_counted x d) p d t (rounded x d).under
      (subst (λ (y : Float). T (not (lt y x))) e (subst (λ (b : Bool). T (not b)) (sym h) tt)))

pub returns-then-f-x : goal.returns-then-f-x
returns-then-f-x c =
    let w = c in
    below-x w.args.x w.whole_below-f.result w.whole_below-f.ensures w.requires c.if-f-x.true

pub returns : goal.returns
returns c =
    let w = c in
    own w.args.x w.whole_below-f.result w.whole_below-f.ensures w.requires
    (subst T (sym w.well_formed.0.1) tt) c.if-f-x.false
