-- The third demand, by induction over the list of calls: whatever comes, the calls that wait are accepted ones, and the
-- chain's picture is faithful to the exact chain of the warps found so far. A refused call changes nothing; a call that
-- waits changes no picture; a warp, whole or joined, is one faithful picture more. Provides: `each_last`, `exact_last`
-- (of one warp more); `third_demand`, `no_warps`. Assumes nothing.
use mathlib.Core.Path.{◌≡◌, refl, sym, ap, ◌∙◌, subst, subst₂}
use mathlib.Core.Bool.{Bool, true, false, not, cond}
use mathlib.Core.List.{List, [], ◌∷◌, ◌++◌}
use Prim.Native.Nat.{ℕ, ◌+◌}
use native.Mathlib.Omega.{arith}
use lib.Dec.{eqb}
use lib.ListN.{length, length-append}
use borrow.Author.Tests.{eqb-true}
use Rattle.exact.proofs.Booleans.{both}
use Rattle.distort.specs.Call.{out_height, rows_of, matte_pixels_of, answer, left}
use Rattle.distort.specs.Job.{Image, Call}
use Rattle.distort.specs.Refusal.{refusal}
use Rattle.distort.specs.Answer.{Answer}
use Rattle.distort.proofs.AcceptedLaws.{accepted_call}
use Rattle.distort.proofs.CallLaws.{answer_accepted, left_accepted}
use Rattle.chain.specs.Demand.{First, Conditions, Lent, ThirdDemand, NoWarps}
use Rattle.exact.specs.Each.{Each}
use Rattle.chain.specs.Exact.{ExactImage, exactly, exact_warp, exact_chain}
use Rattle.chain.specs.Warps.{
  height_in,
  pictured,
  accepted,
  all_rows,
  together,
  Warp,
  State,
  start_of,
  group,
  completes,
  warped,
  waits,
  step,
  run,
  after,
}
use Rattle.chain.proofs.Faithful.{Faithful, first_faithful}
use Rattle.chain.proofs.JoinLaws.{Every, every_append, IsAccepted, together_is}
use Rattle.chain.proofs.WarpLaws.{warp_of, warp_faithful}

-- ---- the last warp of a list
pub each_last : (P : Warp → Type 0) (ws : List Warp) (w : Warp) → Each P (ws ++ (w ∷ [])) → Each P ws × P w
each_last P [] w h = (tt, h.0)
each_last P (v ∷ ws) w h = let r = each_last P ws w h.1 in ((h.0, r.0), r.1)

pub exact_last : (q : ExactImage) (ws : List Warp) (w : Warp)
    → exact_chain q (ws ++ (w ∷ [])) ≡ exact_warp (exact_chain q ws) w.given w.answered
unfolding exact_chain
exact_last q [] w = refl
exact_last q (v ∷ ws) w = exact_last (exact_warp q v.given v.answered) ws w

never_none : (ws : List Warp) (w : Warp) → ws ++ (w ∷ []) ≡ [] → ⊥
never_none ws w e = absurd (go (length ws) (sym (length-append ws (w ∷ [])) ∙ ap length e))
  where
    go : (n : ℕ) → n + 1 ≡ 0 → ⊥
    go n e = omega arith

module _ (first : Image) where
  record Sound (s : State) : Type 0 where
    waiting : Every IsAccepted s.waiting
    faithful : First first → Each Lent s.warps → Each Conditions s.warps
        → Faithful s.image (exact_chain (exactly first) s.warps) (length s.warps)
    none : s.warps ≡ [] → s.image ≡ first

  -- ---- one warp more
  module _ (s : State) (c : Call) (S : Sound s) (e : refusal c ≡ 0) where
    abbrev made : Warp
    made = record { given = c.given; answered = answer c; lent = c.image; chain = s.image }

    abbrev whole : List ℕ
    whole = rows_of c.image c.given 0 (out_height c.image c.given)

    abbrev count : ℕ
    count = matte_pixels_of c.image c.given c.first c.rows

    warped_sound : (bytes : List ℕ) → bytes ≡ whole → Sound (warped s c bytes)
    warped_sound bytes is = record {
      waiting = tt;
      faithful = λ F L C. go F (each_last Lent s.warps made L) (each_last Conditions s.warps made C);
      none = λ z. absurd (never_none s.warps made z);
    }
      where
        go : First first → (Each Lent s.warps × Lent made) → (Each Conditions s.warps × Conditions made)
            → Faithful (pictured (answer c) bytes) (exact_chain (exactly first) (s.warps ++ (made ∷ [])))
            (length (s.warps ++ (made ∷ [])))
        go G L C =
            let Q : ExactImage = exact_chain (exactly first) s.warps in
            let F : Faithful c.image Q (length s.warps) =
            subst (λ (p : Image). Faithful p Q (length s.warps)) (sym L.1) (S.faithful G L.0 C.0) in
            let K : Conditions (warp_of c.image c.given count) =
            subst₂ (λ (a : Answer) (p : Image).
            Conditions (record { given = c.given; answered = a; lent = c.image; chain = p }))
            (answer_accepted c e) (sym L.1) C.1 in
            let R : Faithful (pictured (answer c) bytes) (exact_warp Q c.given (answer c)) (length s.warps + 1) =
            subst₂ (λ (a : Answer) (b : List ℕ). Faithful (pictured a b) (exact_warp Q c.given a)
            (length s.warps + 1)) (sym (answer_accepted c e)) (sym is)
            (warp_faithful c.image c.given count (accepted_call c e).job K Q (length s.warps) F) in
            subst₂ (λ (q : ExactImage) (n : ℕ). Faithful (pictured (answer c) bytes) q n)
            (sym (exact_last (exactly first) s.warps made)) (sym (length-append s.warps (made ∷ []))) R

    all_rows_law : all_rows c ≡ true → left c ≡ whole
    unfolding all_rows
    all_rows_law h =
        let b = both (eqb c.first 0) (eqb c.rows (height_in (answer c))) h in
        left_accepted c e
        ∙ (λ i. rows_of c.image c.given (eqb-true c.first 0 b.0 i)
        ((eqb-true c.rows (height_in (answer c)) b.1 ∙ ap height_in (answer_accepted c e)) i))

    waits_sound : Sound (waits s c)
    waits_sound = record {
      waiting = every_append IsAccepted s.waiting (c ∷ []) S.waiting (e, tt);
      faithful = S.faithful;
      none = S.none;
    }

    taken_sound : Sound (cond (all_rows c) (warped s c (left c))
        (cond (completes s c) (warped s c (together (answer c) (group s c))) (waits s c)))
    taken_sound = go (all_rows c) refl (completes s c) refl
      where
        go : (t : Bool) → all_rows c ≡ t → (u : Bool) → completes s c ≡ u
            → Sound (cond t (warped s c (left c)) (cond u (warped s c (together (answer c) (group s c))) (waits s c)))
        go true f u h = warped_sound (left c) (all_rows_law f)
        go false f true h = warped_sound (together (answer c) (group s c)) (together_is s c e S.waiting h)
        go false f false h = waits_sound

  -- ---- a call, and a list
  step_sound : (s : State) (c : Call) → Sound s → Sound (step s c)
  unfolding step accepted
  step_sound s c S = go (eqb (refusal c) 0) refl
    where
      go : (t : Bool) → eqb (refusal c) 0 ≡ t
          → Sound (cond (not t) s (cond (all_rows c) (warped s c (left c))
          (cond (completes s c) (warped s c (together (answer c) (group s c))) (waits s c))))
      go true e = taken_sound s c S (eqb-true (refusal c) 0 e)
      go false e = S

  run_sound : (s : State) (calls : List Call) → Sound s → Sound (run s calls)
  unfolding run
  run_sound s [] S = S
  run_sound s (c ∷ calls) S = run_sound (step s c) calls (step_sound s c S)

  start_sound : Sound (start_of first)
  unfolding exact_chain
  start_sound = record { waiting = tt; faithful = λ F L C. first_faithful first F; none = λ z. refl }

  after_sound : (calls : List Call) → Sound (after first calls)
  after_sound calls = run_sound (start_of first) calls start_sound

pub third_demand : ThirdDemand
third_demand first calls F L C = ((after_sound first calls).faithful F L C).near

pub no_warps : NoWarps
unfolding exact_chain
no_warps first calls e = ((after_sound first calls).none e, ap (exact_chain (exactly first)) e)
