-- A list of calls that is worked out: where it ends, and that it meets every premise of the third demand. What the
-- demand then says of it stands here once, for all examples. Provides: `near`, `all_accepted`, `witness`. Assumes
-- nothing.
use mathlib.Core.Path.{◌≡◌, refl, sym, ◌∙◌, subst, subst⁻¹}
use mathlib.Core.Logic.{◌⊎◌, inl, inr}
use mathlib.Core.Bool.{Bool, true, false, not, cond}
use mathlib.Core.List.{List, [], ◌∷◌}
use Prim.Native.Nat.{ℕ, suc, ◌+◌, ◌≤◌}
use native.Mathlib.Nat.{zero-add}
use native.Mathlib.Omega.{arith}
use lib.Dec.{eqb}
use lib.ListN.{length, length-append}
use borrow.Author.Tests.{eqb-true}
use Rattle.distort.specs.Call.{answer, left}
use Rattle.distort.specs.Job.{Image, Call}
use Rattle.distort.specs.Refusal.{refusal}
use Rattle.chain.specs.Demand.{First, Conditions, Lent, Near, warps_of}
use Rattle.exact.specs.Each.{Each}
use Rattle.chain.specs.Exact.{exactly, exact_chain}
use Rattle.chain.specs.Warps.{Warp, State, start_of, accepted, all_rows, group, completes, together, warped, waits}
use Rattle.chain.specs.Warps.{step, run, after}
use Rattle.chain.proofs.Chain.{third_demand}
use Rattle.chain.proofs.JoinLaws.{Every, IsAccepted}

pub record WorkedOut (p : Image) (calls : List Call) (s : State) : Type 0 where
  pub ends : after p calls ≡ s
  pub first : First p
  pub lent : Each Lent s.warps
  pub conditions : Each Conditions s.warps

-- P of the warps at the true end, from P of those worked out
at_end : {p : Image} {calls : List Call} {s : State} (P : List Warp → Type 0) → WorkedOut p calls s
    → P s.warps → P (warps_of p calls)
at_end P w = subst⁻¹ (λ (s : State). P s.warps) w.ends

-- ---- the demand at such a list
pub near : {p : Image} {calls : List Call} {s : State} → WorkedOut p calls s
    → Near s.image (exact_chain (exactly p) s.warps) (length s.warps)
near {p} {calls} w =
    subst (λ (s : State). Near s.image (exact_chain (exactly p) s.warps) (length s.warps)) w.ends
    (third_demand p calls w.first (at_end (Each Lent) w w.lent) (at_end (Each Conditions) w w.conditions))

-- ---- where there are as many warps as calls, every call is accepted
-- a call makes no warp, or it is accepted and makes one: s is the state before it, r the state after it
abbrev Adds : State → Call → State → Type 0
Adds s c r =
    (length r.warps ≡ length s.warps) ⊎ ((refusal c ≡ 0) × (length r.warps ≡ length s.warps + 1))

adds : (s : State) (c : Call) → Adds s c (step s c)
unfolding step accepted
adds s c = go (eqb (refusal c) 0) refl (all_rows c) (completes s c)
  where
    go : (t : Bool) → eqb (refusal c) 0 ≡ t → (u v : Bool)
        → Adds s c
        (cond (not t) s
        (cond u (warped s c (left c))
        (cond v (warped s c (together (answer c) (group s c)))
        (waits s c))))
    go false e u v = inl refl
    go true e true v = inr (eqb-true (refusal c) 0 e, length-append s.warps _)
    go true e false true = inr (eqb-true (refusal c) 0 e, length-append s.warps _)
    go true e false false = inl refl

-- a list makes at most one for each call, and as many only where each is accepted
most : (s : State) (calls : List Call) → length (run s calls).warps ≤ length s.warps + length calls
unfolding run
most s [] = omega arith
most s (c ∷ calls) = go (most (step s c) calls) (adds s c)
  where
    go : length (run (step s c) calls).warps ≤ length (step s c).warps + length calls → Adds s c (step s c)
        → length (run (step s c) calls).warps ≤ length s.warps + suc (length calls)
    go h (inl e) = omega arith
    go h (inr e) = let n = e.1 in omega arith

throughout : (s : State) (calls : List Call) → length (run s calls).warps ≡ length s.warps + length calls
    → Every IsAccepted calls
unfolding run
throughout s [] h = tt
throughout s (c ∷ calls) h = go (most (step s c) calls) (λ e. throughout (step s c) calls e) (adds s c)
  where
    go : length (run (step s c) calls).warps ≤ length (step s c).warps + length calls
        → (length (run (step s c) calls).warps ≡ length (step s c).warps + length calls → Every IsAccepted calls)
        → Adds s c (step s c) → IsAccepted c × Every IsAccepted calls
    go m rest (inl e) = absurd (omega arith)
    go m rest (inr e) = let n = e.1 in (e.0, rest (omega arith))

pub all_accepted : {p : Image} {calls : List Call} {s : State} → WorkedOut p calls s
    → length s.warps ≡ length calls → Every IsAccepted calls
all_accepted {p} {calls} w e =
    throughout (start_of p) calls (at_end (λ (ws : List Warp). length ws ≡ 0 + length calls) w (e ∙ sym (zero-add _)))

-- ---- that a method has such a list
-- P of one of the warps
abbrev pub Some : (Warp → Type 0) → List Warp → Type 0
Some P [] = ⊥
Some P (w ∷ ws) = P w ⊎ Some P ws

abbrev pub By : ℕ → Warp → Type 0
By method w = w.given.method ≡ method

-- a list that meets every premise, with a warp by this method
pub record Witness (method : ℕ) : Type 0 where
  pub picture : Image
  pub calls : List Call
  pub first : First picture
  pub lent : Each Lent (warps_of picture calls)
  pub conditions : Each Conditions (warps_of picture calls)
  pub used : Some (By method) (warps_of picture calls)

pub witness : {p : Image} {calls : List Call} {s : State} (method : ℕ) → WorkedOut p calls s
    → Some (By method) s.warps → Witness method
witness {p} {calls} method w some = record {
  picture = p;
  calls = calls;
  first = w.first;
  lent = at_end (Each Lent) w w.lent;
  conditions = at_end (Each Conditions) w w.conditions;
  used = at_end (Some (By method)) w some;
}
