-- `unfit` is the table's first seven rows: past each test that fails, what is left of them answers.
use mathlib.Core.Path.{sym, ◌∙◌}
use Rattle.distort.proofs.refusal.unfit.Goals as goal

pub bad_stock-requires : goal.bad_stock-requires
bad_stock-requires c = sym c.bad_size.ensures ∙ c.if-bad_size.false

pub bad_number-requires : goal.bad_number-requires
bad_number-requires c = record {
  channels_value = sym c.bad_size.ensures
      ∙ c.if-bad_size.false;
  channels_value_2 = sym c.bad_stock.ensures ∙ c.if-bad_stock.false;
}
