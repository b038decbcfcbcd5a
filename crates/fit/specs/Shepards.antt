-- What Shepard's method is fitted to: the pairs u, v, x, y as they are. Specification 5.2. Assumes nothing.
use Rattle.std.specs.Prelude.{ℕ, ◌*◌, take}
use Rattle.mappings.specs.Mapping.{Fitted, shepards_kind, mapping, fitted}
use Rattle.exact.specs.Vector.{Vector}

unfoldable pub fit_shepards : Vector → ℕ → Fitted
fit_shepards values pairs = fitted (mapping shepards_kind 0 (take (4 * pairs) values))
