-- A store at the end of a padded list makes it one longer. By opening `padded`. Assumes nothing.
use mathlib.Core.Path.{◌≡◌, sym, ap, ◌∙◌}
use mathlib.Core.List.{[], ◌∷◌, ◌++◌}
use Prim.Native.Nat.{ℕ, suc, ◌+◌, ◌-◌, ◌<◌}
use native.Mathlib.Omega.{arith}
use lib.ListN.{length, set, replicate, length-append}
use lib.Seq.{set-append_seam, append_snoc}
use lib.Ieee.{Float}
use Rattle.exact.specs.Vector.{Vector}
use Rattle.linear.specs.Matrix.{nought}
use Rattle.mappings.specs.Padded.{padded}

one_longer : (xs : Vector) (x : Float) → length (xs ++ (x ∷ [])) ≡ length xs + 1
one_longer xs x = length-append xs (x ∷ [])

-- xs.push(x)
pub padded_push : (n : ℕ) (xs : Vector) (x : Float) → length xs < n
    → set (padded n xs) (length xs) x ≡ padded n (xs ++ (x ∷ []))
padded_push n xs x h =
    ap (λ (k : ℕ). set (xs ++ replicate k nought) (length xs) x) (one_less (length xs) h)
    ∙ set-append_seam xs nought (replicate (n - (length xs + 1)) nought) x
    ∙ sym (append_snoc xs x (replicate (n - (length xs + 1)) nought))
    ∙ ap (λ (k : ℕ). (xs ++ (x ∷ [])) ++ replicate (n - k) nought) (sym (one_longer xs x))
  where
    one_less : (k : ℕ) → k < n → n - k ≡ suc (n - (k + 1))
    one_less k h = omega arith
