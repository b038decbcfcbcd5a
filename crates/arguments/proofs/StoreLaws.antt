-- The store: it has room for what it is said to hold, below its count stand the arguments and above it zeros. A turn of
-- its loop writes one place, so what stands elsewhere is kept. Assumes nothing.
use mathlib.Core.Path.{◌≡◌, refl, sym, ap, ◌∙◌}
use mathlib.Core.Bool.{Bool, true, false, cond}
use mathlib.Core.List.{List}
use Prim.Native.Nat.{ℕ, ◌+◌, ◌*◌, ◌≤◌, ◌<◌, zero-le}
use native.Mathlib.Omega.{arith}
use lib.Dec.{eqb, lit<}
use lib.Ieee.{Float}
use Rattle.exact.specs.Double.{nought}
use lib.ListN.{length, get_or, length-set, get_or-replicate}
use lib.Seq.{get_or-set_same, get_or-set_other}
use borrow.Author.Tests.{eqb-true, eqb-false}
use Rattle.exact.specs.Loop.{up_to}
use Rattle.exact.proofs.Loop.{up_to_next, up_to_keep, up_to_join}
use Rattle.endian.specs.Bytes.{argument_at}
use Rattle.arguments.specs.Store.{count_of, held_of, zero_arguments, keep, values_of, order_of}

pub held_room : (bytes : List ℕ) → (held_of bytes ≤ 257) × (8 * held_of bytes ≤ length bytes)
unfolding held_of
held_room bytes = omega arith

pub held_all : (bytes : List ℕ) → count_of bytes ≤ 257 → held_of bytes ≡ count_of bytes
unfolding held_of
held_all bytes h = omega arith

held_none : (bytes : List ℕ) → count_of bytes ≡ 0 → held_of bytes ≤ 0
unfolding held_of
held_none bytes e = omega arith

held_some : (bytes : List ℕ) → (count_of bytes ≡ 0 → ⊥) → 0 < held_of bytes
unfolding held_of
held_some bytes h = omega arith

-- what was written is kept, and so is the length
after : (bytes : List ℕ) (n : ℕ) → length (up_to (keep bytes) 0 n zero_arguments) ≡ 257
unfolding keep zero_arguments
after bytes n = up_to_keep (keep bytes) 0 zero_arguments (λ (l : List Float). length l ≡ 257) n zero-le
    (λ j l a b h. length-set l j (argument_at bytes j) ∙ h) refl

-- the turn k, and those after it
pub value_at : (bytes : List ℕ) (k : ℕ) (d : Float) → k < held_of bytes → get_or (values_of bytes) k d ≡ argument_at bytes k
unfolding values_of keep zero_arguments
value_at bytes k d h =
    ap (λ (l : List Float). get_or l k d)
    (up_to_join (keep bytes) 0 zero_arguments (k + 1) (held_of bytes) zero-le (omega arith))
    ∙ up_to_keep (keep bytes) (k + 1) (up_to (keep bytes) 0 (k + 1) zero_arguments)
    (λ (l : List Float). get_or l k d ≡ argument_at bytes k) (held_of bytes) (omega arith)
    (λ j l a b p. get_or-set_other l j k (argument_at bytes j) d (λ e. omega arith) ∙ p)
    (ap (λ (l : List Float). get_or l k d) (sym (up_to_next (keep bytes) 0 zero_arguments k zero-le refl))
    ∙ get_or-set_same (up_to (keep bytes) 0 k zero_arguments) k (argument_at bytes k) d
    (omega (arith, after bytes k, held_room bytes)))

pub value_past : (bytes : List ℕ) (k : ℕ) (d : Float) → held_of bytes ≤ k → k < 257
    → get_or (values_of bytes) k d ≡ nought
unfolding values_of keep zero_arguments
value_past bytes k d h r =
    up_to_keep (keep bytes) 0 zero_arguments (λ (l : List Float). get_or l k d ≡ nought) (held_of bytes) zero-le
    (λ j l a b p. get_or-set_other l j k (argument_at bytes j) d (λ e. omega arith) ∙ p)
    (get_or-replicate 257 k nought d r)

-- a polynomial's order is the store's first number, whatever the bytes
pub order_value : (bytes : List ℕ) (d : Float) → order_of bytes ≡ get_or (values_of bytes) 0 d
unfolding order_of
order_value bytes d = go (eqb (count_of bytes) 0) refl
  where
    go : (b : Bool) → eqb (count_of bytes) 0 ≡ b
        → cond b nought (argument_at bytes 0) ≡ get_or (values_of bytes) 0 d
    go true e = sym (value_past bytes 0 d (held_none bytes (eqb-true (count_of bytes) 0 e)) (lit< tt))
    go false e = sym (value_at bytes 0 d (held_some bytes (eqb-false (count_of bytes) 0 e)))
