-- `Polynomial` of order 2 meets every premise of the third demand: one warp, fitted to six pairs, as many as it has
-- terms, whose fit is worked out by elimination. It is u = x, v = y² / 2, under `White`. Assumes nothing.
use mathlib.Core.Path.{◌≡◌, refl}
use mathlib.Core.List.{[], ◌∷◌, ◌++◌}
use native.Mathlib.Omega.{arith}
use lib.IntN.{pos}
use Rattle.mappings.specs.Mapping.{poly_kind, mapping, fitted}
use Rattle.mappings.specs.Mapping.{Fitted}
use Rattle.distort.specs.Job.{Image, Given, Call}
use Rattle.distort.specs.Refusal.{fit_of, refusal}
use Rattle.chain.specs.Demand.{Conditions, by_polynomial, Near}
use Rattle.chain.specs.Exact.{exactly, exact_chain}
use Rattle.chain.specs.Warps.{accepted, all_rows, step, run, Warp, after}
use Rattle.chain.proofs.Fair.{fairly, fair}
use Rattle.chain.proofs.Opened.{opened}
use Rattle.chain.proofs.Small.{s3/8, s1, d0, d1/2, d1, d2, f0, f_0, f1/2, f1}
use Rattle.chain.proofs.Small.{by, black, card, p0, first, made, end, asks, row}
use Rattle.chain.proofs.Worked.{WorkedOut, near, all_accepted}

-- the order, then u, v, x, y at the six points of a triangle of side 2
abbrev bent : Given
bent =
    by 7
    (d2
    ++ (d0 ++ d0 ++ d0 ++ d0)
    ++ (d1 ++ d0 ++ d1 ++ d0)
    ++ (d2 ++ d0 ++ d2 ++ d0)
    ++ (d0 ++ d1/2 ++ d0 ++ d1)
    ++ (d1 ++ d1/2 ++ d1 ++ d1)
    ++ (d0 ++ d2 ++ d0 ++ d2))
    3 0 0 (pos 0)

-- the terms are 1, x, y, x², x y, y²
abbrev fit : Fitted
fit =
    fitted
    (mapping poly_kind 2 (f0 ∷ f1 ∷ f_0 ∷ f_0 ∷ f_0 ∷ f_0 ∷ (f0 ∷ f0 ∷ f_0 ∷ f_0 ∷ f_0 ∷ f1/2 ∷ [])))

pub polynomial_fit : fit_of p0 bent ≡ fit
unfolding opened
polynomial_fit = refl

abbrev pub call : Call
call = asks p0 bent 0 2 (row ++ row)

-- 3/8, 11/16 and 1, then 5/8, 11/32 and 3/8
abbrev pub p1 : Image
p1 =
    card 3
    ((s3/8 ++ (0 ∷ 0 ∷ 0x30 ∷ 0x3f ∷ []) ++ s1)
    ++ ((0 ∷ 0 ∷ 0x20 ∷ 0x3f ∷ []) ++ (0 ∷ 0 ∷ 0xb0 ∷ 0x3e ∷ []) ++ s3/8))

abbrev pub warp : Warp
warp = made bent p0 (pos 0)

ends : after p0 (call ∷ []) ≡ end p1 (warp ∷ [])
unfolding opened accepted all_rows step run
ends = refl

conditions : Conditions warp
unfolding opened fairly
conditions = fair warp fit polynomial_fit by_polynomial refl (λ e. omega arith) black tt

pub polynomial_worked : WorkedOut p0 (call ∷ []) (end p1 (warp ∷ []))
polynomial_worked = record { ends = ends; first = first; lent = (refl, tt); conditions = (conditions, tt) }

pub polynomial_accepted : refusal call ≡ 0
polynomial_accepted = (all_accepted polynomial_worked refl).0

pub polynomial_near : Near p1 (exact_chain (exactly p0) (warp ∷ [])) 1
polynomial_near = near polynomial_worked
