-- Where refusal 5 does not apply every argument is good. One bad number would have made the test false for good, since
-- a turn never makes it true again. Assumes nothing.
use mathlib.Core.Path.{◌≡◌, refl, sym, ap, ◌∙◌}
use mathlib.Core.Bool.{Bool, true, false, ◌&&◌, true≢false}
use mathlib.Core.List.{List}
use Prim.Native.Nat.{ℕ, ◌+◌, ◌<◌, zero-le}
use native.Mathlib.Omega.{arith}
use borrow.Author.Tests.{not-false}
use Rattle.exact.specs.Loop.{up_to}
use Rattle.exact.proofs.Loop.{up_to_next, up_to_keep, up_to_join}
use Rattle.endian.specs.Bytes.{argument_at}
use Rattle.arguments.specs.Store.{count_of}
use Rattle.arguments.specs.Refusal.{good_number, still_good, bad_argument}

and_false : (b : Bool) → (b && false) ≡ false
and_false true = refl
and_false false = refl

module _ (bytes : List ℕ) where
  -- all turns up to n, from true on
  abbrev all : ℕ → Bool
  all n = up_to (still_good bytes) 0 n true

  -- a bad number, and all later turns
  spoilt : (k n : ℕ) → k < n → good_number (argument_at bytes k) ≡ false → all n ≡ false
  unfolding still_good
  spoilt k n h bad =
      up_to_join (still_good bytes) 0 true (k + 1) n zero-le (omega arith)
      ∙ up_to_keep (still_good bytes) (k + 1) (all (k + 1)) (λ (b : Bool). b ≡ false) n (omega arith)
      (λ j y a b p. ap (λ (t : Bool). t && good_number (argument_at bytes j)) p)
      (sym (up_to_next (still_good bytes) 0 true k zero-le refl) ∙ ap (λ (t : Bool). all k && t) bad ∙ and_false (all k))

  pub all_good : bad_argument bytes ≡ false → (k : ℕ) → k < count_of bytes → good_number (argument_at bytes k) ≡ true
  unfolding bad_argument
  all_good fine k h = go (good_number (argument_at bytes k)) refl
    where
      go : (g : Bool) → good_number (argument_at bytes k) ≡ g → g ≡ true
      go true e = refl
      go false e = absurd (true≢false (sym (not-false (all (count_of bytes)) fine) ∙ spoilt k (count_of bytes) h e))
