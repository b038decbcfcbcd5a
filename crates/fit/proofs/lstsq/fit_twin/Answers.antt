-- A turn of the loop adds the definition's next two rows.
use Rattle.std.proofs.Common.{◌≡◌, ◌∙◌, ap, rules, ℕ}
use Rattle.linear.proofs.NormalLaws.{normal_none, normal_last, normal_solved}
use Rattle.linear.specs.Normal.{add_row}
use Rattle.linear.specs.Solve.{solved}
use Rattle.mappings.specs.declared.pair.Pair.{Pair}
use Rattle.mappings.specs.Pairs.{pair_at}
use Rattle.mappings.specs.Rows.{first_row, second_row}
use Rattle.fit.specs.Fit.{first_rows, second_rows, all_u, all_v}
use Rattle.fit.proofs.FitLaws.{two_added}
use Rattle.fit.proofs.lstsq.fit_twin.Goals as goal

pub loop-j-init : goal.loop-j-init
loop-j-init c = record {
  system = (λ i. (c.new-equations.ensures.matrix i, c.new-equations.ensures.sides i)) ∙ normal_none _ _ _;
  unknowns = c.new-equations.ensures.unknowns;
}

pub loop-j-preserved : goal.loop-j-preserved
loop-j-preserved c =
    let values = c.args.pairs.now.values.now in
    let twin = c.args.twin in
    let p : c.at-p.result ≡ pair_at values 0 c.loop-j.j =
    c.at-p.ensures ∙ ap (λ (s : ℕ). pair_at values s c.loop-j.j) c.requires.0 in
    let n : c.add_row.new.self.n ≡ c.args.n = c.add_row.ensures.unknowns ∙ c.loop-j.invariant.unknowns in
    record {
      system = two_added (first_rows values twin) (second_rows values twin) (all_u values) (all_v values) _ _
          (c.first_row.ensures ∙ ap (first_row twin) p)
          (ap (λ (q : Pair). q.u) p)
          (c.second_row.ensures ∙ ap (second_row twin) p)
          (ap (λ (q : Pair). q.v) p)
          c.loop-j.invariant.system
          (c.add_row.ensures.system
          ∙ ap (λ n. add_row c.first_row.result c.at-p.result.u n (c.loop-j.equations.a, c.loop-j.equations.b))
          c.loop-j.invariant.unknowns)
          (c.add_row-in-loop-j.ensures.system
          ∙ ap (λ n. add_row c.second_row.result c.at-p.result.v n (c.add_row.new.self.a, c.add_row.new.self.b)) n);
      unknowns = c.add_row-in-loop-j.ensures.unknowns ∙ n;
    }

pub returns : goal.returns
returns c = normal_solved _ _ _ _
    (normal_last _ _ _ _ _ (search rules) (search rules) c.loop-j.invariant.system)
    (c.solve.ensures
    ∙ ap (λ n. solved n (c.loop-j.equations.a, c.loop-j.equations.b)) c.loop-j.invariant.unknowns)
