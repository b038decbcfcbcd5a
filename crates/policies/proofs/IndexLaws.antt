-- An index falls inside the picture by every rule, and where it is inside already each rule leaves it. By cases on its
-- sign, and then by arithmetic. Assumes nothing.
use mathlib.Core.Path.{◌≡◌, refl, sym}
use mathlib.Core.Bool.{Bool, true, false, cond, true≢false}
use Prim.Native.Nat.{ℕ, ◌+◌, ◌-◌, ◌*◌, ◌/◌, ◌%◌, ◌≤◌, ◌<◌}
use native.Mathlib.Nat.{mod-lt}
use native.Mathlib.Omega.{arith}
use lib.Dec.{ltb}
use lib.IntN.{ℤ, pos, negsuc}
use lib.Signed.{mag}
use borrow.Author.Tests.{ltb-true, ltb-false}
use Rattle.policies.specs.Index.{in_range, clamped, tile, mirror, parity}

-- ---- what is inside

pub within_lt : (v : ℤ) (n : ℕ) → in_range v n ≡ true → mag v < n
unfolding in_range
within_lt (pos a) n h = ltb-true a n h
within_lt (negsuc a) n h = absurd (true≢false (sym h))

pub clamped_lt : (v : ℤ) (n : ℕ) → 0 < n → clamped v n < n
unfolding clamped
clamped_lt (pos a) n h = go (ltb a n) refl
  where
    go : (t : Bool) → ltb a n ≡ t → cond t a (n - 1) < n
    go true e = ltb-true a n e
    go false e = omega arith
clamped_lt (negsuc a) n h = h

pub tile_lt : (v : ℤ) (n : ℕ) → 0 < n → tile v n < n
unfolding tile
tile_lt (pos a) n h = mod-lt a h
tile_lt (negsuc a) n h = below n (a % n) h
  where
    below : (n r : ℕ) → 0 < n → n - 1 - r < n
    below n r h = omega arith

pub mirror_lt : (v : ℤ) (n : ℕ) → 0 < n → mirror v n < n
unfolding mirror
mirror_lt v n h = go (tile v (2 * n)) (ltb (tile v (2 * n)) n) refl
  where
    go : (m : ℕ) (t : Bool) → ltb m n ≡ t → cond t m (2 * n - 1 - m) < n
    go m true e = ltb-true m n e
    go m false e = upper n m (ltb-false m n e) h
      where
        upper : (n m : ℕ) → n ≤ m → 0 < n → 2 * n - 1 - m < n
        upper n m g h = omega arith

pub parity_lt : (v : ℤ) (n : ℕ) → parity v n < 2
unfolding parity
parity_lt (pos a) n = mod-lt (a / n) (omega arith)
parity_lt (negsuc a) n = mod-lt (a / n + 1) (omega arith)
