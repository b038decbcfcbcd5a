-- The loop's invariant: the equations are the definition's after two rows for each of j pairs, in n unknowns.
use Rattle.std.proofs.Common.{◌≡◌, ◌*◌}
use Rattle.linear.specs.Normal.{normal, in_turn}
use Rattle.fit.specs.Fit.{first_rows, second_rows, all_u, all_v}
use Rattle.fit.proofs.lstsq.fit_twin.Given as goal

abbrev pub invariant-loop-j : goal.invariant-loop-j
invariant-loop-j l = record {
  system : (l.equations.a, l.equations.b)
      ≡ normal (in_turn (first_rows l.pairs.values.now l.twin) (second_rows l.pairs.values.now l.twin))
      (in_turn (all_u l.pairs.values.now) (all_v l.pairs.values.now)) l.n (2 * l.j);
  unknowns : l.equations.n ≡ l.n;
}
