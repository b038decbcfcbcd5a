-- What is refused for a band is refused for the whole, but for 10 and 11: rows 1 to 9 of the table read the job alone.
-- And where rows and band are fit, the job alone decides, so that a call for no rows asks for the size. Assumes
-- nothing.
use mathlib.Core.Path.{◌≡◌, refl, sym, ap, ◌∙◌}
use mathlib.Core.Logic.{◌⊎◌, inl, inr, ⊎_elim}
use mathlib.Core.Bool.{Bool, true, false, not}
use mathlib.Core.List.{List, [], ◌∷◌}
use Prim.Native.Nat.{ℕ, zero, suc, ◌+◌, ◌*◌, ◌≤◌}
use native.Mathlib.Omega.{arith}
use borrow.Author.Tests.{le-ltb, eq-eqb}
use lib.ListN.{length}
use Rattle.exact.specs.Table.{first_of}
use Rattle.exact.proofs.TableLaws.{row_passed, no_rows}
use Rattle.distort.specs.Job.{Image, Given, Call}
use Rattle.distort.specs.Refusal.{out_channels, bad_rows, bad_tray, job_refusal, refusal}
use Rattle.distort.specs.Call.{out_width, out_height}
use Rattle.distort.proofs.AcceptedLaws.{job_call, rows_call, job_of_call}

-- ---- the last two rows
last_rows : (a b : Bool) → (first_of ((10, a) ∷ ((11, b) ∷ [])) ≡ 0)
    ⊎ ((first_of ((10, a) ∷ ((11, b) ∷ [])) ≡ 10) ⊎ (first_of ((10, a) ∷ ((11, b) ∷ [])) ≡ 11))
unfolding first_of
last_rows true b = inr (inl refl)
last_rows false true = inr (inr refl)
last_rows false false = inl refl

pub job_passes : (c : Call) → job_refusal c.image c.given ≡ 0 → (refusal c ≡ 0)
    ⊎ ((refusal c ≡ 10) ⊎ (refusal c ≡ 11))
job_passes c e =
    let r = rows_call c e in
    ⊎_elim (λ q. inl (r ∙ q)) (λ t. inr (⊎_elim (λ q. inl (r ∙ q)) (λ q. inr (r ∙ q)) t))
    (last_rows (bad_rows c) (bad_tray c))

-- a number from 1 to 9 is the job's
pub own_number : (c : Call) (n : ℕ) → 1 ≤ n → n ≤ 9 → refusal c ≡ n → job_refusal c.image c.given ≡ n
own_number c n low high e = go (job_refusal c.image c.given) refl
  where
    zero_not : (r : ℕ) → r ≡ n → r ≡ 0 → ⊥
    zero_not r a b = omega arith

    ten_not : (r : ℕ) → r ≡ n → r ≡ 10 → ⊥
    ten_not r a b = omega arith

    eleven_not : (r : ℕ) → r ≡ n → r ≡ 11 → ⊥
    eleven_not r a b = omega arith

    neither_of : (r : ℕ) → r ≡ n → (r ≡ 0) ⊎ ((r ≡ 10) ⊎ (r ≡ 11)) → ⊥
    neither_of r q = ⊎_elim (zero_not r q) (⊎_elim (ten_not r q) (eleven_not r q))

    go : (m : ℕ) → job_refusal c.image c.given ≡ m → m ≡ n
    go zero q = absurd (neither_of (refusal c) e (job_passes c q))
    go (suc m) q = sym (job_call c (suc m) (omega arith) q) ∙ e

-- ---- two calls of one job
module _ (c d : Call) (pictures : c.image ≡ d.image) (gifts : c.given ≡ d.given) where
  same_job : job_refusal c.image c.given ≡ job_refusal d.image d.given
  same_job i = job_refusal (pictures i) (gifts i)

  -- but for 10 and 11 both are refused alike
  pub same_refusal : (n : ℕ) → 1 ≤ n → n ≤ 9 → refusal c ≡ n → refusal d ≡ n
  same_refusal n low high e = job_call d n low (sym same_job ∙ own_number c n low high e)

  -- where one is accepted, the other can be refused for its rows and its band alone
  pub other_rows : refusal c ≡ 0 → (refusal d ≡ 0) ⊎ ((refusal d ≡ 10) ⊎ (refusal d ≡ 11))
  other_rows e = job_passes d (sym same_job ∙ job_of_call c e)

-- ---- rows and band that are fit
pub fitting : (c : Call) → c.first + c.rows ≤ out_height c.image c.given
    → length c.band ≡ c.rows * out_width c.image c.given * out_channels c.image c.given * 4
    → refusal c ≡ job_refusal c.image c.given
fitting c h e = go (job_refusal c.image c.given) refl
  where
    rows_fit : bad_rows c ≡ false
    rows_fit = unfold bad_rows in le-ltb _ _ h

    band_fit : bad_tray c ≡ false
    band_fit = unfold bad_tray in ap not (eq-eqb _ _ e)

    go : (n : ℕ) → job_refusal c.image c.given ≡ n → refusal c ≡ n
    go zero q = rows_call c q ∙ sym (row_passed 10 _ _ rows_fit (row_passed 11 _ _ band_fit no_rows))
    go (suc n) q = job_call c (suc n) (omega arith) q

module _ (p : Image) (g : Given) where
  -- all rows, into this band
  abbrev pub whole : List ℕ → Call
  whole band = record { image = p; given = g; first = 0; rows = out_height p g; band = band }

  -- no rows, from this one on, and an empty band
  abbrev pub asking : ℕ → Call
  asking first = record { image = p; given = g; first = first; rows = 0; band = [] }

  pub whole_refusal : (band : List ℕ) → length band ≡ out_height p g * out_width p g * out_channels p g * 4
      → refusal (whole band) ≡ job_refusal p g
  whole_refusal band e = fitting (whole band) (omega arith) e

  pub asking_refusal : (first : ℕ) → first ≤ out_height p g → refusal (asking first) ≡ job_refusal p g
  asking_refusal first h = fitting (asking first) (omega arith) (omega arith)

  -- so that who asks for the size learns whether the whole is accepted, and if not why
  pub asked_whole : (band : List ℕ) → length band ≡ out_height p g * out_width p g * out_channels p g * 4
      → refusal (asking 0) ≡ refusal (whole band)
  asked_whole band e = asking_refusal 0 (omega arith) ∙ sym (whole_refusal band e)
