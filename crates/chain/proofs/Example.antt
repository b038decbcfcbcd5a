-- A list that meets every premise of the third demand, worked out: a refused call, a whole warp by `AffineProjection`,
-- two rows of a job by `PerspectiveProjection` that join, between them a call for the same row lent another picture,
-- which stays alone, and a whole warp by `BilinearReverse` under `Random`. The pictures have three channels; one warp
-- by `Affine`, in a viewport above the picture, has four. Assumes nothing.
use mathlib.Core.Path.{◌≡◌, refl}
use mathlib.Core.Logic.{inr}
use mathlib.Core.List.{List, [], ◌∷◌, ◌++◌}
use Prim.Native.Nat.{ℕ, zero, suc, ◌+◌, ◌*◌, ◌<◌}
use native.Mathlib.Omega.{arith}
use lib.IntN.{pos, negsuc}
use lib.Ieee as Ieee
use Rattle.endian.specs.Bytes as Bytes
use Rattle.picture.specs.Colour.{one}
use Rattle.distort.specs.Job.{Image, Given, Call}
use Rattle.distort.specs.Refusal.{fit_of}
use Rattle.chain.specs.Demand.{
  First,
  Conditions,
  by_affine,
  by_affine_projection,
  by_perspective_projection,
  by_bilinear_reverse,
  Near,
}
use Rattle.exact.specs.Each.{Each}
use Rattle.chain.specs.Exact.{exactly, exact_chain}
use Rattle.chain.specs.Warps.{
  same_bytes,
  same_whole,
  same_image,
  same_given,
  alike,
  accepted,
  all_rows,
  holds,
  any_holds,
  every_row,
  row_in,
  alike_to,
  row_size,
  together,
  completes,
  step,
  run,
  Warp,
  after,
}
use Rattle.chain.proofs.Closed.{below, below_every, le_f, unitly, unit}
use Rattle.chain.proofs.Fair.{fairly, fair}
use Rattle.chain.proofs.Opened.{opened}
use Rattle.chain.proofs.Small.{
  s1,
  s0,
  d0,
  d1/4,
  d1/2,
  d1,
  d2,
  by,
  black,
  card,
  high,
  deep,
  low,
  p0,
  first,
  made,
  end,
  asks,
  row,
}
use Rattle.chain.proofs.Worked.{WorkedOut, near}

-- ---- jobs
-- half a row down (Edge); as from a tilted plane (Mirror); rows taken twice as far apart (Random); half a row down
-- again, one row up (Edge)
abbrev pub shifted : Given
shifted = by 1 (d1 ++ d0 ++ d0 ++ d1 ++ d0 ++ d1/2) 0 0 0 (pos 0)

abbrev pub tilted : Given
tilted = by 4 (d1 ++ d0 ++ d0 ++ d0 ++ d1 ++ d0 ++ d0 ++ d1/4) 7 0 0 (pos 0)

abbrev pub spread : Given
spread = by 5 ((d0 ++ d0 ++ d0 ++ d0) ++ (d1 ++ d0 ++ d1 ++ d0) ++ (d0 ++ d2 ++ d0 ++ d1) ++ (d1 ++ d2 ++ d1 ++ d1)) 13
    0 0 (pos 0)

abbrev above : Given
above = by 0 (d0 ++ d0 ++ d0 ++ d1/2) 0 0 1 (negsuc 0)

-- ---- pictures
abbrev pub p1 : Image
p1 = card 3 (high ++ low)

abbrev pub p2 : Image
p2 = card 3 ((0x25 ∷ 0x49 ∷ 0x12 ∷ 0x3d ∷ 0xb8 ∷ 0x6d ∷ 0xfb ∷ 0x3e ∷ 0x6e ∷ 0xdb ∷ 0x76 ∷ 0x3f ∷ []) ++ low)

abbrev pub p3 : Image
p3 = card 3 ((0x92 ∷ 0x24 ∷ 0x89 ∷ 0x3e ∷ 0xdc ∷ 0xb6 ∷ 0xdd ∷ 0x3e ∷ 0xb7 ∷ 0x6d ∷ 0x3b ∷ 0x3f ∷ []) ++ low)

abbrev q0 : Image
q0 = card 4 (high ++ s1 ++ (deep ++ s1))

abbrev q1 : Image
q1 = card 4 (high ++ s1 ++ (high ++ s1))

-- ---- the lists; a band is black before
abbrev calls : List Call
calls =
    asks (record { bytes = []; width = 0; height = 2; channels = 3 }) shifted 0 2 (row ++ row)
    ∷ asks p0 shifted 0 2 (row ++ row)
    ∷ asks p1 tilted 0 1 row
    ∷ asks p0 tilted 1 1 row
    ∷ asks p1 tilted 1 1 row
    ∷ asks p2 spread 0 2 (row ++ row)
    ∷ []

abbrev alone : List Call
alone = asks q0 above 0 2 (row ++ row ++ s0 ++ s0) ∷ []

-- their warps
abbrev pub warps : List Warp
warps = made shifted p0 (pos 0) ∷ made tilted p1 (pos 0) ∷ made spread p2 (pos 0) ∷ []

abbrev one_warp : List Warp
one_warp = made above q0 (negsuc 0) ∷ []

ends : after p0 calls ≡ end p3 warps
unfolding opened same_bytes same_whole same_image same_given alike accepted all_rows holds any_holds every_row row_in alike_to
    row_size together completes step run
ends = refl

ends_alone : after q0 alone ≡ end q1 one_warp
unfolding opened accepted all_rows step run
ends_alone = refl

-- ---- the premises
first_4 : First q0
unfolding Ieee.of_bits Bytes.number_at below unitly le_f
first_4 = record {
  colours = inr refl;
  whole = refl;
  samples = λ (k : ℕ) h. unit (below_every (λ (n : ℕ). unitly (Bytes.sample_at q0.bytes n)) 8 tt k h);
  alphas = λ e. ones;
}
  where
    ones : (n : ℕ) → n < 2 → Bytes.sample_at q0.bytes (n * 4 + 3) ≡ one
    ones zero h = refl
    ones (suc zero) h = refl
    ones (suc (suc n)) h = absurd (omega arith)

pub conditions : Each Conditions warps
unfolding opened fairly
conditions = (
  fair (made shifted p0 (pos 0)) (fit_of p0 shifted) refl by_affine_projection refl (λ e. omega arith) black tt,
  (
    fair (made tilted p1 (pos 0)) (fit_of p1 tilted) refl by_perspective_projection refl (λ e. omega arith) black tt,
    (fair (made spread p2 (pos 0)) (fit_of p2 spread) refl by_bilinear_reverse refl (λ e. omega arith) black tt, tt),
  ),
)

conditions_4 : Each Conditions one_warp
unfolding opened fairly
conditions_4 = (fair (made above q0 (negsuc 0)) (fit_of q0 above) refl by_affine refl (λ e. omega arith) black tt, tt)

pub three_worked : WorkedOut p0 calls (end p3 warps)
three_worked = record { ends = ends; first = first; lent = (refl, (refl, (refl, tt))); conditions = conditions }

pub one_worked : WorkedOut q0 alone (end q1 one_warp)
one_worked = record { ends = ends_alone; first = first_4; lent = (refl, tt); conditions = conditions_4 }

-- ---- the demand, at these lists
pub three_near : Near p3 (exact_chain (exactly p0) warps) 3
three_near = near three_worked

pub one_near : Near q1 (exact_chain (exactly q0) one_warp) 1
one_near = near one_worked
