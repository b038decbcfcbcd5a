-- Bestfit's own window meets every premise of the third demand: two warps, by `Perspective` fitted to four pairs and by
-- `AffineProjection`, so that the picture is 1 by 2, then 3 by 3 at (-1, -1), then 2 by 2 at (-1, -1). Assumes nothing.
use mathlib.Core.Path.{◌≡◌, refl}
use mathlib.Core.List.{List, [], ◌∷◌, ◌++◌}
use Prim.Native.Nat.{ℕ}
use native.Mathlib.Omega.{arith}
use lib.IntN.{pos, negsuc}
use Rattle.distort.specs.Job.{Image, Given, Call}
use Rattle.distort.specs.Refusal.{fit_of}
use Rattle.distort.specs.Answer.{Accepted}
use Rattle.chain.specs.Demand.{Conditions, by_affine_projection, by_perspective, Near}
use Rattle.exact.specs.Each.{Each}
use Rattle.chain.specs.Exact.{exactly, exact_chain}
use Rattle.chain.specs.Warps.{accepted, all_rows, step, run, Warp, after}
use Rattle.chain.proofs.JoinLaws.{Every, IsAccepted}
use Rattle.chain.proofs.Fair.{fairly, fair}
use Rattle.chain.proofs.Opened.{opened}
use Rattle.chain.proofs.PerspectiveExample.{keystone, fit, perspective_fit}
use Rattle.chain.proofs.Small.{d0, d1/4, by, black, high, deep, low, p0, first, end, asks, row}
use Rattle.chain.proofs.Worked.{WorkedOut, near, all_accepted}

-- a picture of so many columns and as many rows
abbrev square : ℕ → List ℕ → Image
square side bytes = record { bytes = bytes; width = side; height = side; channels = 3 }

-- f64 -1/2
abbrev d-1/2 : List ℕ
d-1/2 = 0 ∷ 0 ∷ 0 ∷ 0 ∷ 0 ∷ 0 ∷ 0xe0 ∷ 0xbf ∷ []

-- the first call is the keystone (Edge); this one makes a quarter of it, half a pixel up and to the left (Tile)
abbrev quarter : Given
quarter = by 1 (d1/4 ++ d0 ++ d0 ++ d1/4 ++ d-1/2 ++ d-1/2) 6 1 0 (pos 0)

-- 5/6, 7/24 and 1/6 thrice in the middle row, each rounded its own way
abbrev p1 : Image
p1 =
    square 3
    ((high ++ high ++ high)
    ++ ((0x55 ∷ 0x55 ∷ 0x55 ∷ 0x3f ∷ 0x56 ∷ 0x55 ∷ 0x95 ∷ 0x3e ∷ 0xac ∷ 0xaa ∷ 0x2a ∷ 0x3e ∷ [])
    ++ (0x55 ∷ 0x55 ∷ 0x55 ∷ 0x3f ∷ 0x56 ∷ 0x55 ∷ 0x95 ∷ 0x3e ∷ 0xab ∷ 0xaa ∷ 0x2a ∷ 0x3e ∷ [])
    ++ (0x55 ∷ 0x55 ∷ 0x55 ∷ 0x3f ∷ 0x55 ∷ 0x55 ∷ 0x95 ∷ 0x3e ∷ 0xac ∷ 0xaa ∷ 0x2a ∷ 0x3e ∷ []))
    ++ (deep ++ deep ++ deep))

abbrev pub p2 : Image
p2 =
    square 2
    ((low ++ low)
    ++ ((0x55 ∷ 0x55 ∷ 0xd5 ∷ 0x3e ∷ 0xaa ∷ 0xaa ∷ 0xca ∷ 0x3e ∷ 0x56 ∷ 0x55 ∷ 0x15 ∷ 0x3f ∷ [])
    ++ (0x55 ∷ 0x55 ∷ 0xd5 ∷ 0x3e ∷ 0xac ∷ 0xaa ∷ 0xca ∷ 0x3e ∷ 0x56 ∷ 0x55 ∷ 0x15 ∷ 0x3f ∷ [])))

abbrev pub calls : List Call
calls =
    asks p0 (keystone 0 1) 0 3 ((row ++ row ++ row) ++ (row ++ row ++ row) ++ (row ++ row ++ row))
    ∷ asks p1 quarter 0 2 ((row ++ row) ++ (row ++ row))
    ∷ []

-- a warp into a square at (-1, -1)
abbrev into : ℕ → Given → Image → Warp
into side g p = record { given = g; answered = Accepted side side (negsuc 0) (negsuc 0) 3 0; lent = p; chain = p }

abbrev pub warps : List Warp
warps = into 3 (keystone 0 1) p0 ∷ into 2 quarter p1 ∷ []

ends : after p0 calls ≡ end p2 warps
unfolding opened accepted all_rows step run
ends = refl

conditions : Each Conditions warps
unfolding opened fairly
conditions = (
  fair (into 3 (keystone 0 1) p0) fit (perspective_fit 0 1) by_perspective refl (λ e. omega arith) black tt,
  (fair (into 2 quarter p1) (fit_of p1 quarter) refl by_affine_projection refl (λ e. omega arith) black tt, tt),
)

pub bestfit_worked : WorkedOut p0 calls (end p2 warps)
bestfit_worked = record { ends = ends; first = first; lent = (refl, (refl, tt)); conditions = conditions }

pub bestfit_accepted : Every IsAccepted calls
bestfit_accepted = all_accepted bestfit_worked refl

pub bestfit_near : Near p2 (exact_chain (exactly p0) warps) 2
bestfit_near = near bestfit_worked
