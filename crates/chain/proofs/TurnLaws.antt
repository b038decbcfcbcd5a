-- One call by cases: refused, a whole warp, the last of the calls that together are a warp, or alone; what it makes of
-- the machine, and of the place where the chain's picture lies. Assumes nothing.
use mathlib.Core.Path.{◌≡◌, refl}
use mathlib.Core.Bool.{Bool, true, false}
use Prim.Native.Nat.{ℕ}
use Rattle.distort.specs.Call.{answer, left}
use Rattle.distort.specs.Job.{Call}
use Rattle.chain.specs.Warps.{State, accepted, all_rows, completes, group, together, warped, waits, step}
use Rattle.chain.specs.Memory.{Home, Nowhere, At, home_after}

-- ---- the four cases
-- the machine and the place of the picture afterwards, in each
pub record Makes (s : State) (c : Call) (t : State) (to : ℕ → Home → Home) : Type 0 where
  pub chain : step s c ≡ t
  pub place : (band : ℕ) (home : Home) → home_after s c band home ≡ to band home

pub data Turn (s : State) (c : Call) : Type 0 where
  is_refused : accepted c ≡ false → Makes s c s (λ band home. home) → Turn s c
  is_whole : accepted c ≡ true → all_rows c ≡ true → Makes s c (warped s c (left c)) (λ band home. At band) → Turn s c
  is_joined : accepted c ≡ true → completes s c ≡ true
      → Makes s c (warped s c (together (answer c) (group s c))) (λ band home. Nowhere) → Turn s c
  is_alone : accepted c ≡ true → Makes s c (waits s c) (λ band home. home) → Turn s c

module _ (s : State) (c : Call) where
  pub refused_makes : accepted c ≡ false → Makes s c s (λ band home. home)
  unfolding step home_after
  refused_makes e = record { chain = rw e; place = λ band home. rw e }

  pub whole_makes : accepted c ≡ true → all_rows c ≡ true → Makes s c (warped s c (left c)) (λ band home. At band)
  unfolding step home_after
  whole_makes e f = record { chain = rw (e, f); place = λ band home. rw (e, f) }

  pub joined_makes : accepted c ≡ true → all_rows c ≡ false → completes s c ≡ true
      → Makes s c (warped s c (together (answer c) (group s c))) (λ band home. Nowhere)
  unfolding step home_after
  joined_makes e f g = record { chain = rw (e, f, g); place = λ band home. rw (e, f, g) }

  pub alone_makes : accepted c ≡ true → all_rows c ≡ false → completes s c ≡ false
      → Makes s c (waits s c) (λ band home. home)
  unfolding step home_after
  alone_makes e f g = record { chain = rw (e, f, g); place = λ band home. rw (e, f, g) }

  pub turn : Turn s c
  turn = by (accepted c) (all_rows c) (completes s c) refl refl refl
    where
      by : (a r j : Bool) → accepted c ≡ a → all_rows c ≡ r → completes s c ≡ j → Turn s c
      by false r j e f g = is_refused e (refused_makes e)
      by true true j e f g = is_whole e f (whole_makes e f)
      by true false true e f g = is_joined e g (joined_makes e f g)
      by true false false e f g = is_alone e (alone_makes e f g)
