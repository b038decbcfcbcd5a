-- `sampler::several::line` meets its contract. The loop's invariant: the sums are the definition's over the taps of the
-- row passed.
use Prim.Native.Nat.{◌+◌, ◌*◌, ◌<◌}
use Rattle.taps.specs.Sampler.{plane_of}
use Rattle.taps.proofs.TapsLaws.{number_small, started, grown, row_done}
use borrow.Author.Rules.{rules}
use Rattle.sampler.proofs.several.line.Goals as goal

pub loop-i-init : goal.loop-i-init
loop-i-init c = let a = c.args in (
  started (plane_of a.s) _ a.n
      a.weight.now a.j a.start,
  search rules,
)

-- the number of the tap's weight
number : (c : goal.After-nearby)
    → let a = c.args in a.j * a.n + c.loop-i.i < 16
number c = number_small c.args.n c.args.j
    c.loop-i.i (search rules) (search rules) (search rules)

pub bounds-weight-j : goal.bounds-weight-j
bounds-weight-j c = number c

pub loop-i-preserved : goal.loop-i-preserved
loop-i-preserved c =
    let a = c.args in (
      grown (plane_of a.s) _ a.n
          a.weight.now a.j c.loop-i.i a.start
          c.nearby.result c.loop-i.sums c.added-sums.result
          (search rules) (search rules) (search rules) c.nearby.ensures
          c.loop-i.invariant.0 c.added-sums.ensures,
      search rules,
    )

pub returns : goal.returns
returns c =
    row_done (plane_of c.args.s) _ c.args.n c.args.weight.now c.args.j c.loop-i.i c.args.start
    c.loop-i.sums c.loop-i.invariant.1 c.loop-i-test.false c.loop-i.invariant.0
