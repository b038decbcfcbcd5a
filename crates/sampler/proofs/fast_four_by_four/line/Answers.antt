-- `sampler::fast_four_by_four::line` meets its contract: four pixels that follow each other.
use Rattle.sampler.specs.FourByFour.{line_sums}
use Rattle.sampler.proofs.fast_four_by_four.line.Goals as goal

pub returns : goal.returns
unfolding line_sums
returns c =
    rw (
      c.added.ensures,
      c.added-c.ensures,
      c.added-b.ensures,
      c.added-a.ensures,
      c.widened-4.ensures,
      c.widened-3.ensures,
      c.widened-2.ensures,
      c.widened.ensures,
    )
