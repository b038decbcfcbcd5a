-- `sampler::fast_bilinear::around_cell` meets its contract: where the bits of both indexes are below the sizes less
-- one, the cell lies inside.
use mathlib.Core.Path.{◌∙◌}
use native.Mathlib.Omega.{arith}
use Prim.Native.Nat.{ℕ, ◌+◌, ◌-◌, ◌<◌}
use Rattle.policies.specs.Named.{code_of}
use Rattle.policies.proofs.IndexCode.{argument, bits_before}
use Rattle.taps.proofs.SignedCode.{near_fits}
use Rattle.sampler.specs.TwoByTwo.{cell_colour}
use Rattle.taps.proofs.TapsLaws.{inside_taps}
use Rattle.sampler.proofs.fast_bilinear.around_cell.Goals as goal

next : (i n : ℕ) → i < n - 1 → i + 1 < n
next i n h = omega arith

pub returns-then-j-p : goal.returns-then-j-p
unfolding cell_colour
returns-then-j-p c =
    let hx = c.if-i-p.true in
    let hy = c.if-j-p.true in
    let p = c.args.cell in
    let s = c.args.s.picture.fits.sizes in
    rw (
      bits_before (argument (near_fits p.column p.near.0) c.bits_of_i64-i.ensures) hx s.width_most,
      bits_before (argument (near_fits p.row p.near.1) c.bits_of_i64-j.ensures) hy s.height_most,
    )
    (c.inside_cell.ensures ∙ inside_taps _ _ _ _ (code_of c.args.s.policy) c.args.s.background _ _ (next _ _ hx)
    (next _ _ hy) _ _)
