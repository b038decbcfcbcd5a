-- Coefficients copied into the blank array are the padded list: the copy of a list onto zeros, and of a second one
-- after it. Assumes nothing.
use mathlib.Core.Path.{◌≡◌, sym, ap, ◌∙◌}
use mathlib.Core.List.{◌++◌}
use Prim.Native.Nat.{ℕ, ◌+◌, ◌-◌}
use native.Mathlib.Omega.{arith}
use lib.ListN.{length, drop, replicate, length-append}
use lib.Seq.{take-append_seam, drop-append_seam}
use borrow.Rule.Slice.PartMut.{put_mid}
use Rattle.std.proofs.Common.{append_assoc}
use Rattle.std.proofs.lemmas.List.{drop-replicate}
use Rattle.exact.specs.Vector.{Vector}
use Rattle.linear.specs.Matrix.{nought}
use Rattle.mappings.specs.declared.mapping.Kind.{Kind}
use Rattle.mappings.specs.declared.mapping.Mapping.{Mapping}
use Rattle.mappings.specs.Padded.{padded}
use Rattle.mappings.specs.Mapping.{mapping}

-- a list over the first zeros
pub laid : (size : ℕ) (xs : Vector) → xs ++ drop (length xs) (replicate size nought) ≡ padded size xs
laid size xs = ap (λ (l : Vector). xs ++ l) (drop-replicate (length xs) size nought)

-- another over the zeros after it
pub laid_after : (size : ℕ) (xs ys : Vector) (k : ℕ) → k ≡ length ys
    → put_mid (length xs) k (padded size xs) ys ≡ padded size (xs ++ ys)
laid_after size xs ys k e =
    ap (λ (l : Vector). l ++ (ys ++ drop k (drop (length xs) (xs ++ rest)))) (take-append_seam xs rest)
    ∙ ap (λ (l : Vector). xs ++ (ys ++ drop k l)) (drop-append_seam xs rest)
    ∙ ap (λ (l : Vector). xs ++ (ys ++ l)) (drop-replicate k (size - length xs) nought)
    ∙ sym (append_assoc xs ys (replicate (size - length xs - k) nought))
    ∙ ap (λ (n : ℕ). (xs ++ ys) ++ replicate n nought) (left (length xs) (length ys) k _ e (length-append xs ys))
  where
    rest : Vector
    rest = replicate (size - length xs) nought

    left : (p q k t : ℕ) → k ≡ q → t ≡ p + q → size - p - k ≡ size - t
    left p q k t e f = omega arith

-- the record of a list that the array holds
pub made : (kind : Kind) (order : ℕ) (xs coef : Vector) (count : ℕ) → count ≡ length xs → coef ≡ padded 256 xs
    → ◌≡◌ {A = Mapping} (record { kind = kind; order = order; count = count; coef = coef }) (mapping kind order xs)
unfolding mapping
made kind order xs coef count e f i = record { kind = kind; order = order; count = e i; coef = f i }
