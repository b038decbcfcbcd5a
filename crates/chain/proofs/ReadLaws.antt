-- One memory, read and written: a read is as long as it was asked for and settled by the bytes of its range; what was
-- written is read back, a write apart leaves a read as it was, and writing back what was read changes no byte. Assumes
-- nothing.
use mathlib.Core.Path.{◌≡◌, refl, sym, ap, ap₂, ◌∙◌}
use mathlib.Core.Bool.{Bool, true, false, ◌&&◌, cond}
use mathlib.Core.Logic.{◌⊎◌, inl, inr, ⊎_elim}
use mathlib.Core.List.{List, ◌∷◌, ◌++◌}
use Prim.Native.Nat.{ℕ, zero, suc, ◌+◌, ◌-◌, ◌≤◌, ◌<◌}
use native.Mathlib.Nat.{zero-add, add-zero, add-suc, suc-add, le_of_suc-le-suc, not-suc-le-zero}
use native.Mathlib.Omega.{arith}
use lib.Dec.{leb, ltb}
use lib.ListN.{length, get_or}
use lib.Seq.{ext_get_or}
use borrow.Author.Tests.{leb-true, ltb-true, le-leb, lt-ltb}
use Rattle.exact.proofs.Naturals.{lt_or_le}
use Rattle.chain.specs.Memory.{Memory, read, among, written}

-- ---- a read
pub read_length : (m : Memory) (from n : ℕ) → length (read m from n) ≡ n
unfolding read
read_length m from zero = refl
read_length m from (suc n) = ap suc (read_length m (suc from) n)

pub read_at : (m : Memory) (from n i : ℕ) → i < n → get_or (read m from n) i 0 ≡ m (from + i)
unfolding read
read_at m from zero i h = absurd (not-suc-le-zero h)
read_at m from (suc n) zero h = ap m (sym (add-zero from))
read_at m from (suc n) (suc i) h = read_at m (suc from) n i (le_of_suc-le-suc h)
    ∙ ap m (suc-add from i ∙ sym (add-suc from i))

-- it depends on the bytes of its range alone
pub read_same : (m p : Memory) (from n : ℕ) → ((a : ℕ) → from ≤ a → a < from + n → m a ≡ p a)
    → read m from n ≡ read p from n
unfolding read
read_same m p from zero h = refl
read_same m p from (suc n) h =
    ap₂ (λ (x : ℕ) (xs : List ℕ). x ∷ xs) (h from (omega arith) (omega arith))
    (read_same m p (suc from) n (λ a l u. h a (omega arith) (omega arith)))

-- two reads in a row are one
pub read_on : (m : Memory) (from n k : ℕ) → read m from (n + k) ≡ read m from n ++ read m (from + n) k
unfolding read
read_on m from zero k = rw (zero-add, add-zero)
read_on m from (suc n) k =
    rw suc-add (ap (λ (xs : List ℕ). m from ∷ xs) (read_on m (suc from) n k ∙ rw (suc-add, add-suc)))

-- ---- whether an address is among the written
inside : (from n a : ℕ) → ((from ≤ a) × (a < from + n)) ⊎ (from ≤ a → a < from + n → ⊥)
inside from n a = ⊎_elim (λ (h : a < from). inr (λ l u. omega arith)) upper (lt_or_le a from)
  where
    upper : from ≤ a → ((from ≤ a) × (a < from + n)) ⊎ (from ≤ a → a < from + n → ⊥)
    upper l = ⊎_elim (λ (u : a < from + n). inl (l, u)) (λ (u : from + n ≤ a). inr (λ k v. omega arith))
        (lt_or_le a (from + n))

among_true : (from n a : ℕ) → from ≤ a → a < from + n → among from n a ≡ true
unfolding among
among_true from n a l u = ap₂ ◌&&◌ (le-leb from a l) (lt-ltb a (from + n) u)

among_false : (from n a : ℕ) → (from ≤ a → a < from + n → ⊥) → among from n a ≡ false
unfolding among
among_false from n a h = by (leb from a) (ltb a (from + n)) (λ p. leb-true from a p) (λ q. ltb-true a (from + n) q)
  where
    by : (p q : Bool) → (p ≡ true → from ≤ a) → (q ≡ true → a < from + n) → (p && q) ≡ false
    by true true l u = absurd (h (l refl) (u refl))
    by true false l u = refl
    by false q l u = refl

module _ (m : Memory) (from : ℕ) (bytes : List ℕ) where
  written_there : (a : ℕ) → from ≤ a → a < from + length bytes → written m from bytes a ≡ get_or bytes (a - from) 0
  unfolding written
  written_there a l u = ap (λ (t : Bool). cond t (get_or bytes (a - from) 0) (m a)) (among_true from (length bytes) a l u)

  pub written_elsewhere : (a : ℕ) → (from ≤ a → a < from + length bytes → ⊥) → written m from bytes a ≡ m a
  unfolding written
  written_elsewhere a h = ap (λ (t : Bool). cond t (get_or bytes (a - from) 0) (m a))
      (among_false from (length bytes) a h)

  pub read_back : read (written m from bytes) from (length bytes) ≡ bytes
  read_back = ext_get_or 0 (read (written m from bytes) from (length bytes)) bytes long at
    where
      long : length (read (written m from bytes) from (length bytes)) ≡ length bytes
      long = read_length (written m from bytes) from (length bytes)

      back : (i : ℕ) → from + i - from ≡ i
      back i = omega arith

      at : (i : ℕ) → i < length (read (written m from bytes) from (length bytes))
          → get_or (read (written m from bytes) from (length bytes)) i 0 ≡ get_or bytes i 0
      at i h =
          let s : i < length bytes = omega (arith, long) in
          read_at (written m from bytes) from (length bytes) i s
          ∙ written_there (from + i) (omega arith) (omega arith)
          ∙ ap (λ (k : ℕ). get_or bytes k 0) (back i)

  pub read_apart : (at n : ℕ) → ((a : ℕ) → at ≤ a → a < at + n → from ≤ a → a < from + length bytes → ⊥)
      → read (written m from bytes) at n ≡ read m at n
  read_apart at n h = read_same (written m from bytes) m at n (λ a l u. written_elsewhere a (h a l u))

-- writing back what was read
pub write_back : (m : Memory) (from n a : ℕ) → written m from (read m from n) a ≡ m a
write_back m from n a = ⊎_elim (λ (h : (from ≤ a) × (a < from + n)). there h.0 h.1) apart (inside from n a)
  where
    there : from ≤ a → a < from + n → written m from (read m from n) a ≡ m a
    there l u =
        written_there m from (read m from n) a l (omega (arith, read_length m from n))
        ∙ read_at m from n (a - from) (omega arith)
        ∙ ap m (omega arith)

    apart : (from ≤ a → a < from + n → ⊥) → written m from (read m from n) a ≡ m a
    apart h = written_elsewhere m from (read m from n) a (λ l u. h l (omega (arith, read_length m from n)))
