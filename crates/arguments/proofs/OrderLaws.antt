-- The orders of a polynomial. The degree is at most 5 and the terms at most 21, whatever the order, by the cases of the
-- tests; and an order that is good is one of six floats. Provides: `degree_range`, `terms_twice`, `terms_range` (what
-- the code's numbers keep to), `OneOfSix`, `one_of_six` (the law of an accepted order). Assumes nothing.
use mathlib.Core.Path.{◌≡◌}
use mathlib.Core.Logic.{◌⊎◌, inl, inr}
use mathlib.Core.Bool.{Bool, true, false, ◌||◌, cond, false≢true}
use Prim.Native.Nat.{ℕ, ◌+◌, ◌*◌, ◌/◌, ◌≤◌}
use lib.Dec.{lit≤, lit<, T, ltb}
use lib.Ieee.{Float, nan, inf, fin, binary64, fits, eq, of_bits, of_fields, odd, span, climb}
use lib.Ieee.Scale.{finite}
use Rattle.exact.specs.Fraction.{frac, value, ◌<F◌}
use Rattle.exact.proofs.Signed.{eq_value}
use Rattle.exact.proofs.Ones.{positive_only}
use Rattle.exact.specs.Double.{one, two}
use Rattle.arguments.specs.Order.{one_and_half, three, four, five, bilinear_order, degree, terms_of, good_order}

-- what holds of each of the six numbers holds of the degree
pub degree_cases : (P : ℕ → Type 0) → P 0 → P 1 → P 2 → P 3 → P 4 → P 5 → (order : Float) → P (degree order)
unfolding degree
degree_cases P p0 p1 p2 p3 p4 p5 order =
    go (eq order one) (eq order two) (eq order three) (eq order four) (eq order five)
  where
    go : (a b c d e : Bool) → P (cond a 1 (cond b 2 (cond c 3 (cond d 4 (cond e 5 0)))))
    go true b c d e = p1
    go false true c d e = p2
    go false false true d e = p3
    go false false false true e = p4
    go false false false false true = p5
    go false false false false false = p0

pub degree_range : (order : Float) → degree order ≤ 5
degree_range = degree_cases (λ (n : ℕ). n ≤ 5) (lit≤ tt) (lit≤ tt) (lit≤ tt) (lit≤ tt) (lit≤ tt) (lit≤ tt)

-- the product that is halved
pub terms_twice : (order : Float) → (degree order + 1) * (degree order + 2) ≤ 42
terms_twice =
    degree_cases (λ (n : ℕ). (n + 1) * (n + 2) ≤ 42) (lit≤ tt) (lit≤ tt) (lit≤ tt) (lit≤ tt) (lit≤ tt) (lit≤ tt)

pub terms_range : (order : Float) → terms_of order ≤ 21
unfolding terms_of
terms_range order =
    go (bilinear_order order) ((degree order + 1) * (degree order + 2) / 2)
    (degree_cases (λ (n : ℕ). (n + 1) * (n + 2) / 2 ≤ 21) (lit≤ tt) (lit≤ tt) (lit≤ tt) (lit≤ tt) (lit≤ tt) (lit≤ tt)
    order)
  where
    go : (b : Bool) (n : ℕ) → n ≤ 21 → cond b 4 n ≤ 21
    go true n h = lit≤ tt
    go false n h = h

-- ---- a good order is one of six floats
eq_finite : (x y : Float) → T (finite y) → T (eq x y) → T (finite x)
unfolding eq
eq_finite nan y t h = absurd h
eq_finite (inf s) nan t h = absurd h
eq_finite (inf s) (inf r) t h = absurd t
eq_finite (inf s) (fin r n d) t h = absurd h
eq_finite (fin s m e) y t h = tt

-- what equals a float above 0 is that float
same : (x y : Float) → T (fits binary64 x) → T (finite y) → T (fits binary64 y) → frac 0 1 <F value y → T (eq x y)
    → x ≡ y
same x y p t q h e =
    let s = eq_finite x y t e in
    positive_only binary64 x y s t p q h ((eq_value x y s t).0 e)

abbrev pub OneOfSix : Float → Type 0
OneOfSix x = (x ≡ one) ⊎ ((x ≡ one_and_half) ⊎ ((x ≡ two) ⊎ ((x ≡ three) ⊎ ((x ≡ four) ⊎ (x ≡ five)))))

pub one_of_six : (x : Float) → T (fits binary64 x) → good_order x ≡ true → OneOfSix x
unfolding good_order bilinear_order degree of_bits of_fields odd span climb fits
one_of_six x p h =
    go (eq x one) (eq x one_and_half) (eq x two) (eq x three) (eq x four) (eq x five)
    (same x one p tt tt (record { lt = lit< tt }))
    (same x one_and_half p tt tt (record { lt = lit< tt }))
    (same x two p tt tt (record { lt = lit< tt }))
    (same x three p tt tt (record { lt = lit< tt }))
    (same x four p tt tt (record { lt = lit< tt }))
    (same x five p tt tt (record { lt = lit< tt }))
    h
  where
    go : (a h b c d e : Bool) → (T a → x ≡ one) → (T h → x ≡ one_and_half) → (T b → x ≡ two) → (T c → x ≡ three)
        → (T d → x ≡ four) → (T e → x ≡ five)
        → (h || ltb 0 (cond a 1 (cond b 2 (cond c 3 (cond d 4 (cond e 5 0)))))) ≡ true → OneOfSix x
    go true h b c d e k1 k k2 k3 k4 k5 t = inl (k1 tt)
    go false true b c d e k1 k k2 k3 k4 k5 t = inr (inl (k tt))
    go false false true c d e k1 k k2 k3 k4 k5 t = inr (inr (inl (k2 tt)))
    go false false false true d e k1 k k2 k3 k4 k5 t = inr (inr (inr (inl (k3 tt))))
    go false false false false true e k1 k k2 k3 k4 k5 t = inr (inr (inr (inr (inl (k4 tt)))))
    go false false false false false true k1 k k2 k3 k4 k5 t = inr (inr (inr (inr (inr (k5 tt)))))
    go false false false false false false k1 k k2 k3 k4 k5 t = absurd (false≢true t)
