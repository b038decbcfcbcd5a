-- A turn of the loop adds the definition's next row.
use Rattle.std.proofs.Common.{◌∙◌, ap, rules}
use Rattle.linear.proofs.NormalLaws.{normal_none, normal_last, normal_solved}
use Rattle.linear.specs.Normal.{add_row}
use Rattle.linear.specs.Solve.{solved}
use Rattle.mappings.specs.Rows.{row_of, side_of}
use Rattle.fit.specs.Fit.{row_of_pair, sides_of}
use Rattle.fit.proofs.FitLaws.{row_added}
use Rattle.fit.proofs.lstsq.fit_one.Goals as goal

pub loop-j-init : goal.loop-j-init
loop-j-init c = record {
  system = (λ i. (c.new-equations.ensures.matrix i, c.new-equations.ensures.sides i)) ∙ normal_none _ _ _;
  unknowns = c.new-equations.ensures.unknowns;
}

pub loop-j-preserved : goal.loop-j-preserved
loop-j-preserved c = record {
  system = row_added
      (row_of_pair c.args.pairs.now.values.now c.args.pairs.now.skip c.args.terms)
      (sides_of c.args.pairs.now.values.now c.args.pairs.now.skip c.args.side) _ _
      (c.row.ensures ∙ ap (row_of c.args.terms) c.at-p.ensures)
      (c.side_of.ensures ∙ ap (side_of c.args.side) c.at-p.ensures)
      c.loop-j.invariant.system
      (c.add_row.ensures.system
      ∙ ap (λ n. add_row c.row.result c.side_of.result n (c.loop-j.equations.a, c.loop-j.equations.b))
      c.loop-j.invariant.unknowns);
  unknowns = c.add_row.ensures.unknowns ∙ c.loop-j.invariant.unknowns;
}

pub returns : goal.returns
returns c = normal_solved _ _ _ _
    (normal_last _ _ _ _ _ (search rules) (search rules) c.loop-j.invariant.system)
    (c.solve.ensures
    ∙ ap (λ n. solved n (c.loop-j.equations.a, c.loop-j.equations.b)) c.loop-j.invariant.unknowns)
