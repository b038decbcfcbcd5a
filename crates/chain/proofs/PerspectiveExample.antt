-- `Perspective` meets every premise of the third demand: one warp, fitted to four pairs, whose fit is worked out by
-- elimination. It is u = 2 x / (1 + y), v = 4 y / (1 + y), under `Background`. Assumes nothing.
use mathlib.Core.Path.{◌≡◌, refl}
use mathlib.Core.List.{[], ◌∷◌, ◌++◌}
use Prim.Native.Nat.{ℕ}
use native.Mathlib.Omega.{arith}
use lib.IntN.{pos}
use Rattle.mappings.specs.Mapping.{perspective_kind, mapping, fitted}
use Rattle.mappings.specs.Mapping.{Fitted}
use Rattle.distort.specs.Job.{Image, Given, Call}
use Rattle.distort.specs.Refusal.{fit_of, refusal}
use Rattle.chain.specs.Demand.{Conditions, by_perspective, Near}
use Rattle.chain.specs.Exact.{exactly, exact_chain}
use Rattle.chain.specs.Warps.{accepted, all_rows, step, run, Warp, after}
use Rattle.chain.proofs.Fair.{fairly, fair}
use Rattle.chain.proofs.Opened.{opened}
use Rattle.chain.proofs.Small.{s0, d0, d1, d2, f0, f_0, f1, f2, f4}
use Rattle.chain.proofs.Small.{by, black, card, p0, first, made, end, asks, row}
use Rattle.chain.proofs.Worked.{WorkedOut, near, all_accepted}

-- u, v, x, y: (0, 0), (2, 0), (0, 2) and (1, 2) come to (0, 0), (1, 0), (0, 1) and (1, 1)
abbrev pub keystone : ℕ → ℕ → Given
keystone policy bestfit =
    by 3 ((d0 ++ d0 ++ d0 ++ d0) ++ (d2 ++ d0 ++ d1 ++ d0) ++ (d0 ++ d2 ++ d0 ++ d1) ++ (d1 ++ d2 ++ d1 ++ d1)) policy
    bestfit 0 (pos 0)

-- (2 x + 0 y + 0) / (0 x + 1 y + 1) and (0 x + 4 y - 0) / (0 x + 1 y + 1)
abbrev pub fit : Fitted
fit = fitted (mapping perspective_kind 0 (f2 ∷ f0 ∷ f0 ∷ f0 ∷ f4 ∷ f_0 ∷ f0 ∷ f1 ∷ f1 ∷ []))

pub perspective_fit : (policy bestfit : ℕ) → fit_of p0 (keystone policy bestfit) ≡ fit
unfolding opened
perspective_fit policy bestfit = refl

abbrev pub call : Call
call = asks p0 (keystone 1 0) 0 2 (row ++ row)

-- 25/36, 35/144 and 5/36, then 9/100, 9/400 and 0, each but the last rounded
abbrev pub p1 : Image
p1 =
    card 3
    ((0x1c ∷ 0xc7 ∷ 0x31 ∷ 0x3f ∷ 0x8e ∷ 0xe3 ∷ 0x78 ∷ 0x3e ∷ 0xe4 ∷ 0x38 ∷ 0x0e ∷ 0x3e ∷ [])
    ++ (0xee ∷ 0x51 ∷ 0xb8 ∷ 0x3d ∷ 0xee ∷ 0x51 ∷ 0xb8 ∷ 0x3c ∷ s0))

abbrev pub warp : Warp
warp = made (keystone 1 0) p0 (pos 0)

ends : after p0 (call ∷ []) ≡ end p1 (warp ∷ [])
unfolding opened accepted all_rows step run
ends = refl

conditions : Conditions warp
unfolding opened fairly
conditions = fair warp fit (perspective_fit 1 0) by_perspective refl (λ e. omega arith) black tt

pub perspective_worked : WorkedOut p0 (call ∷ []) (end p1 (warp ∷ []))
perspective_worked = record { ends = ends; first = first; lent = (refl, tt); conditions = (conditions, tt) }

pub perspective_accepted : refusal call ≡ 0
perspective_accepted = (all_accepted perspective_worked refl).0

pub perspective_near : Near p1 (exact_chain (exactly p0) (warp ∷ [])) 1
perspective_near = near perspective_worked
