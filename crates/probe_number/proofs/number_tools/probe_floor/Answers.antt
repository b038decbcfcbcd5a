-- The float of the bits, then its floor: what the two calls ensure, one after the other.
use mathlib.Core.Path.{ap, ◌∙◌}
use mir.Syntax.{w64}
use mir.Facts.{to_z-of_z}
use Rattle.number.specs.Floor.{floor_i64}
use Rattle.probe_number.proofs.number_tools.probe_floor.Goals as goal

pub returns : goal.returns
returns c = to_z-of_z {w = w64} (record { sfits = c.floor_i64.type_inv }) ∙ c.floor_i64.ensures ∙ ap floor_i64 cc
