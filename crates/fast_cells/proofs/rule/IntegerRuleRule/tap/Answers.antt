-- `tap` by the rule of `Integer` meets its contract: what is below the number that is worked with is the tap's.
use Rattle.fast_cells.proofs.PlacesLaws.{integer}
use Rattle.fast_cells.proofs.rule.IntegerRuleRule.tap.Goals as goal

pub returns : goal.returns
returns c = record {
  inside = c.has_cell.ensures;
  place = integer _ c.requires c.args.u c.kept.ensures.value c.column.ensures c.has_cell.ensures;
}
