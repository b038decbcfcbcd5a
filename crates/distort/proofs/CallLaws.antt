-- The answer and the band afterwards from what is known of the refusal: a number, or none; and a call whose window is
-- known is worked as the table's last two rows and the band's definition say. Assumes nothing.
use mathlib.Core.Path.{◌≡◌, refl, sym, ap, ◌∙◌}
use mathlib.Core.Bool.{Bool, true, false, cond}
use mathlib.Core.List.{List}
use Prim.Native.Nat.{ℕ, zero, suc, ◌<◌}
use native.Mathlib.Omega.{arith}
use lib.Dec.{lit≤}
use borrow.Author.Tests.{eq-eqb, ne_eqb}
use Rattle.exact.proofs.TableLaws.{row_holds, row_passed, no_rows}
use Rattle.window.specs.Window.{x_of, y_of}
use Rattle.distort.specs.Answer.{Answer}
use Rattle.distort.specs.Answer.{Accepted, Refused}
use Rattle.distort.specs.Call.{
  out_width,
  out_height,
  mapped_of,
  source_of,
  rows_of,
  matte_pixels_of,
  answer,
  left,
  number_of,
}
use Rattle.distort.specs.Job.{Call}
use Rattle.distort.specs.Placed.{in_window}
use Rattle.distort.specs.Refusal.{window_of, out_channels, bad_rows, bad_tray, job_refusal, refusal}
use Rattle.distort.proofs.AcceptedLaws.{rows_call}

pair : {A B : Type 0} {a c : A} {b d : B} → a ≡ c → b ≡ d → ◌≡◌ {A = A × B} (a, b) (c, d)
pair e f i = (e i, f i)

module _ (c : Call) where
  -- what an accepted call answers
  abbrev pub size : Answer
  size =
      Accepted (out_width c.image c.given) (out_height c.image c.given)
      (x_of (window_of c.image c.given)) (y_of (window_of c.image c.given))
      (out_channels c.image c.given) (matte_pixels_of c.image c.given c.first c.rows)

  -- the answer and the band of this call
  abbrev pub done : Answer × List ℕ
  done = (answer c, left c)

  pub refused_answer : (n : ℕ) → 0 < n → refusal c ≡ n → ◌≡◌ {A = Answer × List ℕ} (Refused n, c.band) done
  unfolding answer left
  refused_answer n h e =
      let q = ne_eqb (refusal c) 0 (λ z. some (refusal c) e z) in
      pair
      (ap Refused (sym e) ∙ sym (ap (λ (b : Bool). cond b size (Refused (refusal c))) q))
      (sym (ap (λ (b : Bool). cond b (rows_of c.image c.given c.first c.rows) c.band) q))
    where
      some : (r : ℕ) → r ≡ n → r ≡ 0 → ⊥
      some r a b = omega arith

  pub accepted_answer : refusal c ≡ 0
      → ◌≡◌ {A = Answer × List ℕ} (size, rows_of c.image c.given c.first c.rows) done
  unfolding answer left
  accepted_answer e =
      let q = eq-eqb (refusal c) 0 e in
      pair (sym (ap (λ (b : Bool). cond b size (Refused (refusal c))) q))
      (sym (ap (λ (b : Bool). cond b (rows_of c.image c.given c.first c.rows) c.band) q))

  -- each by itself
  pub answer_accepted : refusal c ≡ 0 → answer c ≡ size
  answer_accepted e = ap (λ (r : Answer × List ℕ). r.0) (sym (accepted_answer e))

  pub left_accepted : refusal c ≡ 0 → left c ≡ rows_of c.image c.given c.first c.rows
  left_accepted e = ap (λ (r : Answer × List ℕ). r.1) (sym (accepted_answer e))

  -- the answer's number is the refusal's, and 0 where there is none
  pub answer_number : number_of (answer c) ≡ refusal c
  answer_number = go (refusal c) refl
    where
      go : (n : ℕ) → refusal c ≡ n → number_of (answer c) ≡ n
      go zero e = ap number_of (answer_accepted e)
      go (suc n) e = ap (λ (r : Answer × List ℕ). number_of r.0) (sym (refused_answer (suc n) (omega arith) e))

  -- once no row of the job holds
  pub placed_answer : job_refusal c.image c.given ≡ 0
      → in_window (source_of c.image c.given) (mapped_of c.image c.given)
      (record {
        width = out_width c.image c.given;
        height = out_height c.image c.given;
        channels = out_channels c.image c.given;
      })
      (record { first = c.first; count = c.rows }) c.band ≡ done
  unfolding in_window bad_rows bad_tray rows_of matte_pixels_of
  placed_answer j = go (bad_rows c) (bad_tray c) refl refl
    where
      go : (a b : Bool) → bad_rows c ≡ a → bad_tray c ≡ b
          → cond a (Refused 10, c.band)
          (cond b (Refused 11, c.band) (size, rows_of c.image c.given c.first c.rows)) ≡ done
      go true b e f = refused_answer 10 (lit≤ tt) (rows_call c j ∙ sym (row_holds 10 _ _ e))
      go false true e f = refused_answer 11 (lit≤ tt) (rows_call c j ∙ sym (row_passed 10 _ _ e (row_holds 11 _ _ f)))
      go false false e f = accepted_answer (rows_call c j ∙ sym (row_passed 10 _ _ e (row_passed 11 _ _ f no_rows)))
