-- The fit handed out: the refusal's number, or 0 with the count of coefficients and then their bits in the bytes lent.
-- A refusal writes nothing. Assumes nothing.
use Rattle.std.specs.Prelude.{ℕ, ◌+◌, ◌*◌, min, cond, List, eqb, get_or, Float}
use Rattle.std.specs.Float.{nan}
use Rattle.exact.specs.Loop.{up_to}
use Rattle.endian.specs.Bytes.{store_u64, store_f64}
use Rattle.mappings.specs.Mapping.{Fitted}
use Rattle.mappings.specs.declared.mapping.Mapping.{Mapping}
use Rattle.probe_fit.specs.Sized.{sized_fit}

unfoldable pub store_coefficient : List Float → ℕ → List ℕ → List ℕ
store_coefficient coef k out = store_f64 out (8 + 8 * k) (get_or coef k nan)

-- (no mapping has more than 256)
abbrev pub store_mapping : Mapping → List ℕ → List ℕ
store_mapping m out = up_to (store_coefficient m.coef) 0 (min m.count 256) (store_u64 out 0 m.count)

unfoldable pub answered : Fitted → List ℕ → ℕ × List ℕ
answered f out = cond (eqb f.refusal 0) (0, store_mapping f.mapping out) (f.refusal, out)

unfoldable pub probe_fit : ℕ → List ℕ → ℕ → ℕ → List ℕ → ℕ × List ℕ
probe_fit method bytes width height out = answered (sized_fit method bytes width height) out
