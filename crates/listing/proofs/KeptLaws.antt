-- The arguments after a text of pairs: each number stands where its pair and its name say. A number is put beside those
-- before it and after, so none takes another's place. Assumes nothing.
use mathlib.Core.Path.{◌≡◌, refl, sym, ap, subst, ◌∙◌}
use mathlib.Core.Logic.{◌⊎◌, inl, inr}
use mathlib.Core.List.{List, [], ◌∷◌, ◌++◌}
use Prim.Native.Nat.{ℕ, zero, suc, ◌+◌, ◌-◌, ◌*◌, ◌≤◌, ◌<◌}
use native.Mathlib.Omega.{arith}
use lib.ListN.{length}
use lib.Ieee.{Float}
use Rattle.endian.specs.Bytes.{f64_at}
use Rattle.endian.proofs.BytesLaws.{store_length}
use Rattle.endian.proofs.FloatBytes.{f64_put, f64_beside}
use Rattle.exact.proofs.Naturals.{lt_or_le}
use Rattle.listing.specs.declared.names.Names.{Names}
use Rattle.listing.specs.Word.{pixels}
use Rattle.listing.specs.Names.{slot_of}
use Rattle.listing.specs.Text.{Numeral, NumeralPair}
use Rattle.listing.proofs.NamesLaws.{slot_lt}
use Rattle.listing.proofs.NumeralLaws.{size_of}
use Rattle.listing.proofs.PairLaws.{store_at, bytes_after, bytes_all}
use Rattle.listing.proofs.PixelsLaws.{pixels_fits}

-- the number that a numeral's text is read as
abbrev pub read : Numeral → Float
read n = pixels n.negative (size_of n)

module _ (names : Names) where
  store_at_length : (lines column : ℕ) (n : Numeral) (bytes : List ℕ)
      → length (store_at names lines column n bytes) ≡ length bytes
  store_at_length lines column n bytes = store_length 8 bytes _ _

  after_length : (lines : ℕ) (bytes : List ℕ) (p : NumeralPair) → length (bytes_after names lines bytes p) ≡ length bytes
  after_length lines bytes p =
      store_at_length lines 3 p.col3 _ ∙ store_at_length lines 2 p.col2 _ ∙ store_at_length lines 1 p.col1 _
      ∙ store_at_length lines 0 p.col0 _

  -- another place of the same pair, or of an earlier one
  store_beside : (lines column : ℕ) (n : Numeral) (bytes : List ℕ) (at : ℕ)
      → (at + 8 ≤ 32 * (lines - 1) + 8 * slot_of names column) ⊎ (32 * (lines - 1) + 8 * slot_of names column + 8 ≤ at)
      → f64_at (store_at names lines column n bytes) at ≡ f64_at bytes at
  store_beside lines column n bytes at h = f64_beside bytes _ (read n) at h

  after_beside : (lines : ℕ) (bytes : List ℕ) (p : NumeralPair) (at : ℕ) → at + 8 ≤ 32 * (lines - 1)
      → f64_at (bytes_after names lines bytes p) at ≡ f64_at bytes at
  after_beside lines bytes p at h =
      store_beside lines 3 p.col3 _ at (inl (omega arith))
      ∙ store_beside lines 2 p.col2 _ at (inl (omega arith))
      ∙ store_beside lines 1 p.col1 _ at (inl (omega arith))
      ∙ store_beside lines 0 p.col0 _ at (inl (omega arith))

  all_beside : (lines : ℕ) (bytes : List ℕ) (ps : List NumeralPair) (at : ℕ) → at + 8 ≤ 32 * (lines - 1)
      → f64_at (bytes_all names lines bytes ps) at ≡ f64_at bytes at
  unfolding bytes_all
  all_beside lines bytes [] at h = refl
  all_beside lines bytes (p ∷ ps) at h = all_beside (lines + 1) (bytes_after names lines bytes p) ps at (omega arith)
      ∙ after_beside lines bytes p at h

  all_append : (lines : ℕ) (bytes : List ℕ) (before : List NumeralPair) (p : NumeralPair) (after : List NumeralPair)
      → bytes_all names lines bytes (before ++ p ∷ after) ≡ bytes_all names (lines + length before + 1)
      (bytes_after names (lines + length before) (bytes_all names lines bytes before) p) after
  unfolding bytes_all
  all_append lines bytes [] p after =
      ap (λ (k : ℕ). bytes_all names (k + 1) (bytes_after names k bytes p) after) (omega arith)
  all_append lines bytes (q ∷ before) p after =
      all_append (lines + 1) (bytes_after names lines bytes q) before p after
      ∙ ap (λ (k : ℕ). bytes_all names (k + 1)
      (bytes_after names k (bytes_all names (lines + 1) (bytes_after names lines bytes q) before) p) after)
      (omega arith)

  all_length : (lines : ℕ) (bytes : List ℕ) (ps : List NumeralPair)
      → length (bytes_all names lines bytes ps) ≡ length bytes
  unfolding bytes_all
  all_length lines bytes [] = refl
  all_length lines bytes (p ∷ ps) = all_length (lines + 1) (bytes_after names lines bytes p) ps
      ∙ after_length lines bytes p

-- ---- the four places of one pair, where the columns have unlike names

apart : (b s t : ℕ) → (s ≡ t → ⊥) → (b + 8 * s + 8 ≤ b + 8 * t) ⊎ (b + 8 * t + 8 ≤ b + 8 * s)
apart b s t h = elim (lt_or_le s t) [ inl l ↦ inl (omega arith) | inr l ↦ inr (more (s - t) refl l) ]
  where
    more : (d : ℕ) → d ≡ s - t → t ≤ s → b + 8 * t + 8 ≤ b + 8 * s
    more zero e l = absurd (h (omega arith))
    more (suc d) e l = omega arith

pub record Apart (names : Names) : Type 0 where
  pub is01 : slot_of names 0 ≡ slot_of names 1 → ⊥
  pub is02 : slot_of names 0 ≡ slot_of names 2 → ⊥
  pub is03 : slot_of names 0 ≡ slot_of names 3 → ⊥
  pub is12 : slot_of names 1 ≡ slot_of names 2 → ⊥
  pub is13 : slot_of names 1 ≡ slot_of names 3 → ⊥
  pub is23 : slot_of names 2 ≡ slot_of names 3 → ⊥

-- what stands at the place of each column
pub record Standing (names : Names) (lines : ℕ) (p : NumeralPair) (bytes : List ℕ) : Type 0 where
  pub at0 : f64_at bytes (32 * (lines - 1) + 8 * slot_of names 0) ≡ read p.col0
  pub at1 : f64_at bytes (32 * (lines - 1) + 8 * slot_of names 1) ≡ read p.col1
  pub at2 : f64_at bytes (32 * (lines - 1) + 8 * slot_of names 2) ≡ read p.col2
  pub at3 : f64_at bytes (32 * (lines - 1) + 8 * slot_of names 3) ≡ read p.col3

module _ (names : Names) (a : Apart names) where
  store_here : (lines column : ℕ) (n : Numeral) (bytes : List ℕ) → 32 * (lines - 1) + 32 ≤ length bytes
      → f64_at (store_at names lines column n bytes) (32 * (lines - 1) + 8 * slot_of names column) ≡ read n
  store_here lines column n bytes room =
      f64_put bytes _ (read n) (pixels_fits n.negative (size_of n)) (omega (arith, slot_lt names column))

  pair_stands : (lines : ℕ) (bytes : List ℕ) (p : NumeralPair) → 32 * (lines - 1) + 32 ≤ length bytes
      → Standing names lines p (bytes_after names lines bytes p)
  pair_stands lines bytes p room =
      let b0 = store_at names lines 0 p.col0 bytes in
      let b1 = store_at names lines 1 p.col1 b0 in
      let b2 = store_at names lines 2 p.col2 b1 in
      let e0 : length b0 ≡ length bytes = store_at_length names lines 0 p.col0 bytes in
      let e1 : length b1 ≡ length b0 = store_at_length names lines 1 p.col1 b0 in
      let e2 : length b2 ≡ length b1 = store_at_length names lines 2 p.col2 b1 in
      record {
        at0 =
            store_beside names lines 3 p.col3 b2 _ (apart _ _ _ a.is03)
            ∙ store_beside names lines 2 p.col2 b1 _ (apart _ _ _ a.is02)
            ∙ store_beside names lines 1 p.col1 b0 _ (apart _ _ _ a.is01)
            ∙ store_here lines 0 p.col0 bytes room;
        at1 =
            store_beside names lines 3 p.col3 b2 _ (apart _ _ _ a.is13)
            ∙ store_beside names lines 2 p.col2 b1 _ (apart _ _ _ a.is12)
            ∙ store_here lines 1 p.col1 b0 (omega arith);
        at2 = store_beside names lines 3 p.col3 b2 _ (apart _ _ _ a.is23)
            ∙ store_here lines 2 p.col2 b1 (omega arith);
        at3 = store_here lines 3 p.col3 b2 (omega arith);
      }

  -- and what follows leaves it there
  pub pairs_stand : (lines : ℕ) (bytes : List ℕ) (before : List NumeralPair) (p : NumeralPair)
      (after : List NumeralPair) → 0 < lines
      → 32 * (lines + length before) ≤ length bytes
      → Standing names (lines + length before) p (bytes_all names lines bytes (before ++ p ∷ after))
  pairs_stand lines bytes before p after some room =
      let here = lines + length before in
      let kept = bytes_all names lines bytes before in
      let e : length kept ≡ length bytes = all_length names lines bytes before in
      let now = bytes_after names here kept p in
      let s = pair_stands here kept p (omega arith) in
      let beside : (column : ℕ)
      → f64_at (bytes_all names (here + 1) now after) (32 * (here - 1) + 8 * slot_of names column) ≡ f64_at now
      (32 * (here - 1) + 8 * slot_of names column)
      = λ column. all_beside names (here + 1) now after _ (omega (arith, slot_lt names column))
      in
      subst (Standing names here p) (sym (all_append names lines bytes before p after)) (record {
        at0 = beside 0 ∙ s.at0;
        at1 = beside 1 ∙ s.at1;
        at2 = beside 2 ∙ s.at2;
        at3 = beside 3 ∙ s.at3;
      })
