-- The loop's invariant: the equations are the definition's after j rows, in n unknowns.
use Rattle.std.proofs.Common.{◌≡◌}
use Rattle.linear.specs.Normal.{normal}
use Rattle.fit.specs.Fit.{row_of_pair, sides_of}
use Rattle.fit.proofs.lstsq.fit_one.Given as goal

abbrev pub invariant-loop-j : goal.invariant-loop-j
invariant-loop-j l = record {
  system : (l.equations.a, l.equations.b)
      ≡ normal (row_of_pair l.pairs.values.now l.pairs.skip l.terms)
      (sides_of l.pairs.values.now l.pairs.skip l.side) l.n l.j;
  unknowns : l.equations.n ≡ l.n;
}
