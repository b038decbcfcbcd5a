-- `tap` by the rule of `Nearest` meets its contract: what is below the number that is worked with is the tap's.
use Rattle.fast_cells.proofs.PlacesLaws.{nearest}
use Rattle.fast_cells.proofs.rule.NearestRuleRule.tap.Goals as goal

pub returns : goal.returns
returns c = record {
  inside = c.has_place.ensures;
  place = nearest _ c.requires c.args.u c.kept_place.ensures.value c.column.ensures c.has_place.ensures;
}
