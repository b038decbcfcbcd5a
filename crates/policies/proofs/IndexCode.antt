-- The 64 bits of an index: those below 2^63 are the index, the others are counted back from -1; and the test for what
-- is inside on the bits alone. By one comparison with 2^63, and then by arithmetic. Assumes nothing.
use mathlib.Core.Path.{◌≡◌, refl, sym, ap, ◌∙◌}
use mathlib.Core.Bool.{Bool, true, false, cond}
use Prim.Native.Nat.{ℕ, suc, ◌-◌, ◌^◌, ◌≤◌, ◌<◌}
use native.Mathlib.Omega.{arith}
use lib.Dec.{ltb}
use lib.IntN.{ℤ, pos, negsuc, ◌+ℤ◌}
use lib.Signed.{mag}
use mir.Syntax.{w64}
use mir.Val.{SFits, of_z, to_z}
use mir.Facts.{to_z-of_z}
use borrow.Author.Tests.{lt-ltb, le-ltb, ltb-false}
use Rattle.endian.specs.Bytes.{twos_complement}
use Rattle.policies.specs.Index.{signed, in_range}

-- ---- bits and index

pub signed_from : (b : ℕ) → b < 2 ^ 63 → signed b ≡ pos b
unfolding signed
signed_from b h = rw (lt-ltb b (2 ^ 63) h)

pub signed_back : (b : ℕ) → 2 ^ 63 ≤ b → signed b ≡ negsuc (0xffff_ffff_ffff_ffff - b)
unfolding signed
signed_back b h = rw (le-ltb b (2 ^ 63) h)

-- an index is read back from its bits
pub signed_bits : (v : ℤ) → SFits w64 v → signed (twos_complement v) ≡ v
unfolding twos_complement
signed_bits (pos a) f = signed_from a f.sfits
signed_bits (negsuc a) f = signed_back (2 ^ 64 - suc a) (upper a f.sfits) ∙ ap negsuc (again a f.sfits)
  where
    upper : (a : ℕ) → a < 2 ^ 63 → 2 ^ 63 ≤ 2 ^ 64 - suc a
    upper a h = omega arith

    again : (a : ℕ) → a < 2 ^ 63 → 0xffff_ffff_ffff_ffff - (2 ^ 64 - suc a) ≡ a
    again a h = omega arith

-- and the bits from the index
pub bits_signed : (b : ℕ) → b < 2 ^ 64 → twos_complement (signed b) ≡ b
unfolding twos_complement signed
bits_signed b h = go (ltb b (2 ^ 63)) refl
  where
    go : (t : Bool) → ltb b (2 ^ 63) ≡ t → twos_complement (cond t (pos b) (negsuc (2 ^ 64 - 1 - b))) ≡ b
    go true e = refl
    go false e = again b h (ltb-false b (2 ^ 63) e)
      where
        again : (b : ℕ) → b < 2 ^ 64 → 2 ^ 63 ≤ b → 2 ^ 64 - suc (2 ^ 64 - 1 - b) ≡ b
        again b h g = omega arith

-- the bits of an argument, as a caller of `bits_of_i64` has them
pub argument : {v : ℤ} {b : ℕ} → SFits w64 v → b ≡ twos_complement (to_z w64 (of_z w64 v)) → signed b ≡ v
argument {v} {b} f e = ap signed (e ∙ ap twos_complement (to_z-of_z f)) ∙ signed_bits v f

-- those of an argument that was moved on
pub moved_bits : {v : ℤ} {b : ℕ} → SFits w64 v → (r : ℤ) (k : ℕ) → mag r < 2 ^ 63 → r ≡ to_z w64 (of_z w64 v) +ℤ pos k
    → b ≡ twos_complement (to_z w64 (of_z w64 r)) → signed b ≡ v +ℤ pos k
moved_bits {v} {b} f r k g h e = argument {v = r} (record { sfits = g }) e ∙ h ∙ ap (λ (z : ℤ). z +ℤ pos k) (to_z-of_z f)

-- ---- inside

pub signed_inside : (b n : ℕ) → b < n → n ≤ 4096 → signed b ≡ pos b
signed_inside b n h g = signed_from b (omega arith)

pub within_yes : (b n : ℕ) → b < n → n ≤ 4096 → in_range (signed b) n ≡ true
unfolding in_range
within_yes b n h g = rw (signed_inside b n h g, lt-ltb b n h)

pub within_no : (b n : ℕ) → n ≤ b → in_range (signed b) n ≡ false
unfolding in_range signed
within_no b n h = go (ltb b (2 ^ 63))
  where
    go : (t : Bool) → in_range (cond t (pos b) (negsuc (2 ^ 64 - 1 - b))) n ≡ false
    go true = le-ltb b n h
    go false = refl

-- bits below a size less one are an index whose next is inside too
pub bits_before : {v : ℤ} {b n : ℕ} → signed b ≡ v → b < n - 1 → n ≤ 4096 → v ≡ pos b
bits_before {v} {b} {n} e h g = sym e ∙ signed_from b (omega arith)

-- bits below a size are an index inside
pub bits_inside : {v : ℤ} {b n : ℕ} → signed b ≡ v → b < n → n ≤ 4096 → v ≡ pos b
bits_inside {v} {b} {n} e h g = sym e ∙ signed_inside b n h g
