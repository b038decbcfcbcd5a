-- Facts about closed numbers, by computing: each test here is a Boolean that stands for one of the demand's conditions,
-- so that at numbers it is shown by `tt`. Provides: `below_every`, `closed`, `unit`, `linear`, `poly`. Assumes
-- nothing.
use mathlib.Core.Path.{◌≡◌, subst}
use mathlib.Core.Bool.{Bool, true, false, not, ◌&&◌}
use Prim.Native.Nat.{ℕ, zero, suc, ◌+◌, ◌*◌, ◌<◌}
use native.Mathlib.Omega.{arith}
use lib.Dec.{T, leb, leb→le, nleb→lt}
use lib.Ieee.{Float}
use lib.Ieee.Scale.{finite}
use Rattle.exact.specs.Fraction.{Fraction, over, frac, value, ◌≤F◌, ◌*F◌, abs_f}
use Rattle.exact.specs.Sums.{Linear}
use Rattle.exact.proofs.Booleans.{both_pass}
use Rattle.chain.specs.Conditions.{PolyTerms}
use Rattle.chain.specs.ExactPoint.{power_at, many}
use Rattle.chain.specs.Demand.{InUnit}

-- f of every number below n
unfoldable pub below : (ℕ → Bool) → ℕ → Bool
below f zero = true
below f (suc n) = below f n && f n

pub below_every : (f : ℕ → Bool) (n : ℕ) → T (below f n) → (k : ℕ) → k < n → T (f k)
unfolding below
below_every f zero t k h = absurd (omega arith)
below_every f (suc n) t k h =
    let b = both_pass (below f n) (f n) t in
    go b.1 (below_every f n b.0 k) (leb (suc k) n) (leb→le (suc k) n) (nleb→lt (suc k) n)
  where
    last : n < suc k → n ≡ k
    last l = omega arith

    go : T (f n) → (k < n → T (f k)) → (t : Bool) → (T t → k < n) → (T (not t) → n < suc k) → T (f k)
    go p r true a b = r (a tt)
    go p r false a b = subst (λ (m : ℕ). T (f m)) (last (b tt)) p

-- ---- fractions
unfoldable pub le_f : Fraction → Fraction → Bool
le_f x y = leb (x.plus * over y + y.minus * over x) (y.plus * over x + x.minus * over y)

pub closed : {x y : Fraction} → T (le_f x y) → x ≤F y
unfolding le_f
closed {x} {y} t = record {
  le = leb→le (x.plus * over y + y.minus * over x) (y.plus * over x + x.minus * over y) t;
}

-- ---- a number from 0 to 1
unfoldable pub unitly : Float → Bool
unitly x = finite x && (le_f (frac 0 1) (value x) && le_f (value x) (frac 1 1))

pub unit : {x : Float} → T (unitly x) → InUnit x
unfolding unitly
unit {x} t =
    let a = both_pass (finite x) _ t in
    let b = both_pass (le_f (frac 0 1) (value x)) _ a.1 in
    record { number = a.0; unit = (closed b.0, closed b.1) }

-- ---- a sum of three terms
unfoldable pub linearly : Float → Float → Float → Fraction → Fraction → Fraction → Bool
linearly m n o X Y b = finite m
    && (finite n && (finite o
    && (le_f (abs_f (value m *F X)) b && (le_f (abs_f (value n *F Y)) b && le_f (abs_f (value o)) b))))

pub linear : {m n o : Float} {X Y b : Fraction} → T (linearly m n o X Y b) → Linear m n o X Y b
unfolding linearly
linear {m} {n} {o} {X} {Y} {b} t =
    let a = both_pass (finite m) _ t in
    let c = both_pass (finite n) _ a.1 in
    let d = both_pass (finite o) _ c.1 in
    let e = both_pass (le_f (abs_f (value m *F X)) b) _ d.1 in
    let f = both_pass (le_f (abs_f (value n *F Y)) b) _ e.1 in
    record {
      number_m = a.0;
      number_n = c.0;
      number_o = d.0;
      term_x = closed e.0;
      term_y = closed f.0;
      term_1 = closed f.1;
    }

-- ---- a sum over the monomials of an order
unfoldable pub termly : ℕ → Fraction → Fraction → (ℕ → Float) → ℕ → Bool
termly order X Y c k = finite (c k) && le_f (abs_f (power_at order X Y k *F value (c k))) (frac 16384 1)

unfoldable pub polynomially : ℕ → Fraction → Fraction → (ℕ → Float) → Bool
unfolding below termly
polynomially order X Y c = below (termly order X Y c) (many order X Y)

pub poly : (order : ℕ) (X Y : Fraction) (c : ℕ → Float) → T (polynomially order X Y c) → PolyTerms order X Y c
unfolding polynomially
poly order X Y c t = record {
  number = λ (k : ℕ) h. (both_pass (finite (c k)) _ (below_every (termly order X Y c) (many order X Y) t k h)).0;
  size = λ (k : ℕ) h. closed (both_pass (finite (c k)) _ (below_every (termly order X Y c) (many order X Y) t k h)).1;
}
