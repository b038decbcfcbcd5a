-- A flag that stays up while each point passes a test of both coordinates: it is up after the last where every one
-- passed. Assumes nothing.
use mathlib.Core.Path.{◌≡◌, refl, ap, ◌∙◌}
use mathlib.Core.Bool.{Bool, true, ◌&&◌}
use mathlib.Core.List.{List}
use Prim.Native.Nat.{ℕ, ◌+◌, ◌≤◌}
use native.Mathlib.Omega.{arith}
use lib.ListN.{get_or}
use lib.Ieee.{Float, nan}
use lib.Ieee.Bits.{is_true}
use Rattle.fast_cells.specs.Inner.{Every}

fewer : (test : Float → Bool) (k n : ℕ) {us : List Float} → k ≤ n → Every test n us → Every test k us
fewer test k n l e = record { each = λ j h. e.each j (omega arith) }

-- what a loop knows after k turns
pub record Passing (first second : Float → Bool) (k : ℕ) (good : Bool) (us vs : List Float) : Type 0 where
  pub passed : Every first k us → Every second k vs → good ≡ true

module _ (first second : Float → Bool) where
  pub pass_none : {us vs : List Float} → Passing first second 0 true us vs
  pass_none = record { passed = λ e f. refl }

  pub pass_more : (k : ℕ) {good b : Bool} {us vs : List Float} → b ≡ (first (get_or us k nan) && second (get_or vs k nan))
      → Passing first second k good us vs → Passing first second (k + 1) (good && b) us vs
  pass_more k {good} {b} {us} {vs} i old =
      record {
        passed = λ e f.
            ap (λ (a : Bool). a && b)
            (old.passed (fewer first k (k + 1) (omega arith) e) (fewer second k (k + 1) (omega arith) f))
            ∙ i
            ∙ ap (λ (a : Bool). a && second (get_or vs k nan)) (is_true (first (get_or us k nan)) (e.each k (omega arith)))
            ∙ is_true (second (get_or vs k nan)) (f.each k (omega arith));
      }

  pub pass_last : (k n : ℕ) {good : Bool} {us vs : List Float} → k ≤ n → Passing first second k good us vs
      → Every first n us → Every second n vs → good ≡ true
  pass_last k n l s e f = s.passed (fewer first k n l e) (fewer second k n l f)
