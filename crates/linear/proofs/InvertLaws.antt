-- How long the inversions' answers are, where there is one. Assumes nothing.
use mathlib.Core.Path.{◌≡◌, refl}
use mathlib.Core.Bool.{Bool, true, false, cond}
use Prim.Native.Nat.{ℕ}
use lib.ListN.{length}
use lib.Ieee.{lt}
use Rattle.std.specs.Prelude.{Option, Some, None, ⊤}
use Rattle.exact.specs.Double.{least_divisor}
use Rattle.number.specs.Magnitude.{abs}
use Rattle.exact.specs.Vector.{Vector}
use Rattle.linear.specs.Invert.{det2, invert_affine, det3, least_det3, invert3}

pub either : {A : Type 0} (size : A → ℕ) (n : ℕ) (b : Bool) (x y : A) → size x ≡ n → size y ≡ n → size (cond b x y) ≡ n
either size n true x y e f = e
either size n false x y e f = f

-- the length of the answer, if there is one
abbrev pub Sized : ℕ → Option Vector → Type 0
Sized n None = ⊤
Sized n (Some x) = length x ≡ n

unless : (n : ℕ) (b : Bool) (x : Vector) → length x ≡ n → Sized n (cond b None (Some x))
unless n true x e = tt
unless n false x e = e

pub affine_length : (m : Vector) → Sized 6 (invert_affine m)
unfolding invert_affine
affine_length m = unless 6 (lt (abs (det2 m)) least_divisor) _ refl

pub inverse_length : (m : Vector) → Sized 9 (invert3 m)
unfolding invert3
inverse_length m = unless 9 (lt (abs (det3 m)) least_det3) _ refl
