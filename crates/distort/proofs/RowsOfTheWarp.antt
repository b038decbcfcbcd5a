-- What an accepted call writes is, byte for byte, the rows it asks for of the same job's warp. That warp is accepted
-- whatever its band held. Both answer the same size, offset and channels, and each counts its own rows' matte pixels.
-- Assumes nothing.
use mathlib.Core.Path.{◌≡◌, refl, sym, ap, ◌∙◌}
use mathlib.Core.List.{List}
use Prim.Native.Nat.{ℕ, ◌+◌, ◌-◌, ◌*◌, ◌≤◌}
use native.Mathlib.Nat.{zero-add}
use native.Mathlib.Omega.{arith}
use lib.ListN.{length, take, drop}
use Rattle.distort.specs.Answer.{Answer}
use Rattle.distort.specs.Answer.{Accepted, Refused}
use Rattle.distort.specs.Call.{out_width, out_height, matte_pixels_of, answer, left}
use Rattle.distort.specs.Job.{Call}
use Rattle.distort.specs.Refusal.{out_channels, refusal}
use Rattle.distort.proofs.AcceptedLaws.{job_of_call, accepted_call}
use Rattle.distort.proofs.BandLaws.{row_length, mattes_add, left_part}
use Rattle.distort.proofs.CallLaws.{size, answer_accepted}
use Rattle.distort.proofs.JobLaws.{whole, whole_refusal}

-- an answer, with this matte count in place of its own
abbrev pub counting : ℕ → Answer → Answer
counting n (Accepted width height x y channels matte) = Accepted width height x y channels n
counting n (Refused number) = Refused number

module _ (c : Call) where
  -- the same job, asked for all rows from row 0 on, into this band
  abbrev pub warp : List ℕ → Call
  warp band = whole c.image c.given band

  -- how many bytes that band is to have
  abbrev pub warp_length : ℕ
  warp_length = out_height c.image c.given * out_width c.image c.given * out_channels c.image c.given * 4

  -- the rows that c asks for, out of the bytes of all
  abbrev pub rows_in : List ℕ → List ℕ
  rows_in bytes =
      take (c.rows * row_length c.image c.given) (drop (c.first * row_length c.image c.given) bytes)

  -- the matte pixels of the rows above them, of them, and of the rows below
  abbrev pub above : ℕ
  above = matte_pixels_of c.image c.given 0 c.first

  abbrev pub own : ℕ
  own = matte_pixels_of c.image c.given c.first c.rows

  abbrev pub below : ℕ
  below =
      matte_pixels_of c.image c.given (c.first + c.rows) (out_height c.image c.given - (c.first + c.rows))

  all_mattes : c.first + c.rows ≤ out_height c.image c.given
      → matte_pixels_of c.image c.given 0 (out_height c.image c.given) ≡ above + (own + below)
  all_mattes h =
      ap (matte_pixels_of c.image c.given 0) (cut c.first c.rows (out_height c.image c.given) h)
      ∙ mattes_add c.image c.given 0 c.first rest
      ∙ ap (λ (r : ℕ). above + matte_pixels_of c.image c.given r rest) (zero-add c.first)
      ∙ ap (λ (n : ℕ). above + n) (mattes_add c.image c.given c.first c.rows _)
    where
      rest : ℕ
      rest = c.rows + (out_height c.image c.given - (c.first + c.rows))

      cut : (f r h : ℕ) → f + r ≤ h → h ≡ f + (r + (h - (f + r)))
      cut f r h k = omega arith

-- what holds of a call and of its job's warp into this band
pub record RowsOfTheWarp (c : Call) (band : List ℕ) : Type 0 where
  pub accepted : refusal (warp c band) ≡ 0
  pub rows : left c ≡ rows_in c (left (warp c band))
  pub answered : answer c ≡ counting (own c) (answer (warp c band))
  pub counted : answer (warp c band) ≡ counting (above c + (own c + below c)) (answer c)

-- whether c asks for some rows, for all or for none
pub rows_of_the_warp : (c : Call) → refusal c ≡ 0 → (band : List ℕ) → length band ≡ warp_length c → RowsOfTheWarp c band
rows_of_the_warp c e band long =
    let a : refusal (warp c band) ≡ 0 = whole_refusal c.image c.given band long ∙ job_of_call c e in
    let h = (accepted_call c e).rows in
    record {
      accepted = a;
      rows = left_part c (warp c band) refl refl e a refl h;
      answered = answer_accepted c e ∙ sym (ap (counting (own c)) (answer_accepted (warp c band) a));
      counted =
          answer_accepted (warp c band) a
          ∙ ap (λ (n : ℕ). counting n (size c)) (all_mattes c h)
          ∙ sym (ap (counting (above c + (own c + below c))) (answer_accepted c e));
    }
