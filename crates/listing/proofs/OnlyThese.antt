-- Nothing else is read: a text that ends without a fault of form is one of specification 12.1, so every other text
-- is refused by 4, whatever its numbers. The state at the end says what the text was. Assumes nothing.
use mathlib.Core.Path.{◌≡◌, refl, ◌∙◌}
use mathlib.Core.Bool.{Bool, true, false, not, ◌||◌, cond, true≢false}
use mathlib.Core.List.{List, [], ◌∷◌, append-nil}
use Prim.Native.Nat.{ℕ, ◌≤◌}
use native.Mathlib.Omega.{arith}
use borrow.Author.Tests.{ltb-false, eqb-true, not-false}
use lib.Dec.{eqb, ltb}
use Rattle.listing.specs.declared.reader.Reader.{Reader}
use Rattle.std.specs.Prelude.{Result, Err}
use Rattle.refusals.specs.declared.Refusal.{Refusal}
use Rattle.refusals.specs.declared.Refusal.TheVariants as Refused
use Rattle.listing.specs.declared.names.Names.{Names}
use Rattle.listing.specs.Reader.{start_reader, fed, is_empty, bad_form, finish}
use Rattle.listing.specs.Text.{text, Described}
use Rattle.listing.proofs.WordForm.{empty, minus, name, number, wrong}
use Rattle.listing.proofs.LineForm.{number_cells, Seen, in_names, in_pairs, too_many}
use Rattle.listing.proofs.FormLaws.{Form, lost, form, all_form}

-- none of four tests holds
record None (a b c d : Bool) : Type 0 where
  n1 : a ≡ false
  n2 : b ≡ false
  n3 : c ≡ false
  n4 : d ≡ false

none_of : (a b c d : Bool) → a || b || c || d ≡ false → None a b c d
none_of false false false d e = record { n1 = refl; n2 = refl; n3 = refl; n4 = e }
none_of true b c d e = absurd (true≢false e)
none_of false true c d e = absurd (true≢false e)
none_of false false true d e = absurd (true≢false e)

-- the lines and the column of a text that ends well
ended : (names : Names) (column lines : ℕ) (t : List ℕ) → column ≡ 0 → 2 ≤ lines → lines ≤ 65
    → Seen names column lines t → Described t
unfolding number_cells
ended _ _ _ _ c a b (in_names ks f) = absurd (omega (arith, a))
ended _ _ _ _ c a b (in_pairs o is ps proper room [] h) = record {
  order = o;
  is_one = is;
  pairs = ps;
  proper = proper;
  some = omega (arith, a);
  room = room;
  is = append-nil (text o ps);
}
ended _ _ _ _ c a b (in_pairs o is ps proper room (n ∷ ns) h) = absurd (omega (arith, c))
ended _ _ _ _ c a b (too_many names column lines t m) = absurd (omega (arith, m, b))

good : (r : Reader) (t : List ℕ) → bad_form r ≡ false → Form r t → Described t
unfolding bad_form is_empty
good _ _ e (lost names column lines large t) = absurd (true≢false e)
good _ _ e (form names _ column lines large t _ empty s) =
    let n = none_of false (not (eqb column 0)) (ltb lines 2) (ltb 65 lines) e in
    let d = ended names column lines t (eqb-true column 0 (not-false (eqb column 0) n.n2))
    (ltb-false lines 2 n.n3) (ltb-false 65 lines n.n4) s in
    record {
      order = d.order;
      is_one = d.is_one;
      pairs = d.pairs;
      proper = d.proper;
      some = d.some;
      room = d.room;
      is = append-nil t ∙ d.is;
    }
good _ _ e (form names _ column lines large t _ minus s) = absurd (true≢false e)
good _ _ e (form names _ column lines large t _ (name k l) s) = absurd (true≢false e)
good _ _ e (form names _ column lines large t _ (number n size d) s) = absurd (true≢false e)
good _ _ e (form names _ column lines large t _ (wrong u) s) = absurd (true≢false e)

pub described : (input bytes : List ℕ) → bad_form (fed (start_reader, bytes) input).0 ≡ false → Described input
described input bytes e = good _ input e (all_form input bytes)

-- every other text
pub others_refused : (input bytes : List ℕ) → (Described input → ⊥)
    → finish (fed (start_reader, bytes) input).0 ≡ Err Refused.Count
unfolding finish
others_refused input bytes n = go (bad_form (fed (start_reader, bytes) input).0) (λ e. n (described input bytes e)) _
  where
    go : (bad : Bool) → (bad ≡ false → ⊥) → (o : Result ℕ Refusal) → cond bad (Err Refused.Count) o ≡ Err Refused.Count
    go true k o = refl
    go false k o = absurd (k refl)
