-- What specification 12.1 describes is read as what it says: for every order of the names and every 1 to 64 pairs of
-- whole
-- numbers, the reader ends with those pairs where each number is within the limit, and with refusal 5 where one is not.
-- Assumes nothing.
use mathlib.Core.Path.{◌≡◌, refl, sym, ap, subst, ◌∙◌}
use mathlib.Core.Bool.{Bool, true, false, ◌&&◌, cond}
use mathlib.Core.List.{List, [], ◌∷◌, ◌++◌}
use Prim.Native.Nat.{ℕ, suc, ◌+◌, ◌-◌, ◌*◌, ◌≤◌, ◌<◌}
use native.Mathlib.Omega.{arith}
use borrow.Author.Tests.{le-ltb}
use lib.Dec.{T, T_not, eqb, eqb_refl}
use lib.ListN.{length, length-append}
use lib.Ieee.{Float}
use lib.Ieee.Fits.{and_l, and_r}
use Rattle.endian.specs.Bytes.{f64_at, argument_at}
use Rattle.std.specs.Prelude.{Ok, Err}
use Rattle.refusals.specs.declared.Refusal.TheVariants as Refused
use Rattle.listing.specs.declared.names.Names.{Names}
use Rattle.listing.specs.Word.{largest_number, pixels}
use Rattle.listing.specs.Names.{slot_of}
use Rattle.listing.specs.Reader.{ReaderState, start_reader, fed, is_empty, bad_form, finish}
use Rattle.listing.specs.Text.{
  Numeral,
  digits,
  AllDigits,
  magnitude,
  NumeralPair,
  Proper,
  AllProper,
  NotTooLarge,
  AllWithin,
  pairs_text,
  Order,
  unlike,
  all_names,
  all_unlike,
  is_order,
  order_text,
  text,
}
use Rattle.listing.proofs.Fed.{fed_append}
use Rattle.listing.proofs.NumeralLaws.{size_of, held}
use Rattle.listing.proofs.PairLaws.{between, large_all, bytes_all, pairs_read}
use Rattle.listing.proofs.OrderLaws.{names_of, order_read}
use Rattle.listing.proofs.OrderTests.{fine}
use Rattle.listing.proofs.KeptLaws.{Apart, pairs_stand}
use Rattle.listing.proofs.LargeLaws.{all_small, all_within}

module _ (o : Order) (h : T (is_order o)) (ps : List NumeralPair) (proper : AllProper ps) (some : 0 < length ps)
    (room : length ps ≤ 64) (bytes : List ℕ) where
  -- the state after the text
  abbrev pub ended : ReaderState
  ended = fed (start_reader, bytes) (text o ps)

  pub ended_is : ended ≡ (between (names_of o) 0 (1 + length ps) (large_all false ps), bytes_all (names_of o) 1 bytes ps)
  unfolding text
  ended_is =
      fed_append (start_reader, bytes) (order_text o) (pairs_text ps)
      ∙ ap (λ (s : ReaderState). fed s (pairs_text ps)) (order_read o bytes (fine o h))
      ∙ pairs_read (names_of o) 1 false bytes ps (omega arith) (omega arith) proper

  lines : 1 + length ps - 1 ≡ length ps
  lines = omega arith

  finished : finish ended.0 ≡ cond (large_all false ps) (Err Refused.Number) (Ok (32 * length ps))
  unfolding finish bad_form is_empty
  finished = rw (ended_is, le-ltb (1 + length ps) 2 (omega arith), le-ltb 65 (1 + length ps) (omega arith), lines)

  -- all within the limit
  pub accepted : AllWithin ps → finish ended.0 ≡ Ok (32 * length ps)
  accepted w = finished ∙ rw (all_small false ps proper w)

  -- one of them beyond it
  pub refused : (AllWithin ps → ⊥) → finish ended.0 ≡ Err Refused.Number
  refused n = finished ∙ beyond (large_all false ps) (λ e. n (all_within false ps proper e).1)
    where
      beyond : (large : Bool) → (large ≡ false → ⊥) → cond large (Err Refused.Number) (Ok (32 * length ps)) ≡ Err Refused.Number
      beyond true k = refl
      beyond false k = absurd (k refl)

-- ---- each number is kept at the place of its pair and its name

-- a numeral's number of pixels
abbrev pub number_of : Numeral → Float
number_of n = pixels n.negative (magnitude n)

pub record Kept (o : Order) (k : ℕ) (p : NumeralPair) (bytes : List ℕ) : Type 0 where
  pub kept0 : argument_at bytes (4 * k + o.col0) ≡ number_of p.col0
  pub kept1 : argument_at bytes (4 * k + o.col1) ≡ number_of p.col1
  pub kept2 : argument_at bytes (4 * k + o.col2) ≡ number_of p.col2
  pub kept3 : argument_at bytes (4 * k + o.col3) ≡ number_of p.col3

differ : (a b : ℕ) → T (unlike a b) → a ≡ b → ⊥
differ a b t e = T_not (eqb a b) t (subst (λ (c : ℕ). T (eqb a c)) e (eqb_refl a))

unlike_slots : (names : Names) (i j a b : ℕ) → slot_of names i ≡ a → slot_of names j ≡ b → T (unlike a b)
    → slot_of names i ≡ slot_of names j → ⊥
unlike_slots names i j a b p q t e = differ a b t (sym p ∙ e ∙ q)

columns_apart : (o : Order) → T (is_order o) → Apart (names_of o)
unfolding is_order
columns_apart o h =
    let f = fine o h in
    let n = names_of o in
    let u01 = unlike o.col0 o.col1 in
    let u02 = unlike o.col0 o.col2 in
    let u03 = unlike o.col0 o.col3 in
    let u12 = unlike o.col1 o.col2 in
    let u13 = unlike o.col1 o.col3 in
    let u23 = unlike o.col2 o.col3 in
    let t0 = and_r (all_names o) (all_unlike o) h in
    let t1 = and_r u01 (u02 && (u03 && (u12 && (u13 && u23)))) t0 in
    let t2 = and_r u02 (u03 && (u12 && (u13 && u23))) t1 in
    let t3 = and_r u03 (u12 && (u13 && u23)) t2 in
    let t4 = and_r u12 (u13 && u23) t3 in
    record {
      is01 = unlike_slots n 0 1 _ _ f.slot0 f.slot1 (and_l u01 (u02 && (u03 && (u12 && (u13 && u23)))) t0);
      is02 = unlike_slots n 0 2 _ _ f.slot0 f.slot2 (and_l u02 (u03 && (u12 && (u13 && u23))) t1);
      is03 = unlike_slots n 0 3 _ _ f.slot0 f.slot3 (and_l u03 (u12 && (u13 && u23)) t2);
      is12 = unlike_slots n 1 2 _ _ f.slot1 f.slot2 (and_l u12 (u13 && u23) t3);
      is13 = unlike_slots n 1 3 _ _ f.slot1 f.slot3 (and_l u13 u23 t4);
      is23 = unlike_slots n 2 3 _ _ f.slot2 f.slot3 (and_r u13 u23 t4);
    }

proper_at : (before : List NumeralPair) (p : NumeralPair) (after : List NumeralPair) → AllProper (before ++ p ∷ after)
    → Proper p
proper_at [] p after h = h.0
proper_at (q ∷ before) p after h = proper_at before p after h.1

-- an argument's place in bytes
place : (k slot name : ℕ) → slot ≡ name → 32 * (1 + k - 1) + 8 * slot ≡ 8 * (4 * k + name)
place k slot name e = omega arith

kept_at : (bytes : List ℕ) (k slot name : ℕ) (n : Numeral) → slot ≡ name → AllDigits (digits n)
    → magnitude n ≤ largest_number
    → f64_at bytes (32 * (1 + k - 1) + 8 * slot) ≡ pixels n.negative (size_of n)
    → argument_at bytes (4 * k + name) ≡ number_of n
kept_at bytes k slot name n e d w s =
    ap (f64_at bytes) (sym (place k slot name e)) ∙ s ∙ ap (pixels n.negative) ((held n d).exact w)

-- the pair p after the pairs `before`, in a buffer of 2,048 bytes
pub kept : (o : Order) → T (is_order o) → (before : List NumeralPair) (p : NumeralPair) (after : List NumeralPair)
    → AllProper (before ++ p ∷ after) → length (before ++ p ∷ after) ≤ 64 → (bytes : List ℕ) → length bytes ≡ 2048
    → NotTooLarge p → Kept o (length before) p (fed (start_reader, bytes) (text o (before ++ p ∷ after))).1
kept o h before p after proper room bytes size w =
    let ps = before ++ p ∷ after in
    let count : length ps ≡ length before + suc (length after) = length-append before (p ∷ after) in
    let f = fine o h in
    let d = proper_at before p after proper in
    let s = pairs_stand (names_of o) (columns_apart o h) 1 bytes before p after (omega arith) (omega arith) in
    let is = ended_is o h ps proper (omega arith) room bytes in
    subst (Kept o (length before) p) (sym (ap (λ (t : ReaderState). t.1) is)) (record {
      kept0 = kept_at _ _ _ _ p.col0 f.slot0 d.0 w.0 s.at0;
      kept1 = kept_at _ _ _ _ p.col1 f.slot1 d.1.0 w.1.0 s.at1;
      kept2 = kept_at _ _ _ _ p.col2 f.slot2 d.1.1.0 w.1.1.0 s.at2;
      kept3 = kept_at _ _ _ _ p.col3 f.slot3 d.1.1.1 w.1.1.1 s.at3;
    })
