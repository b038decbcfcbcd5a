-- A source point handed out: the refusal's number, or 0 with the bits of u and v and then usable as 0 or 1 in the bytes
-- lent. A refusal writes nothing. Assumes nothing.
use Rattle.std.specs.Prelude.{ℕ, ◌+◌, cond, List, eqb, Float}
use Rattle.std.specs.Float.{binary64}
use Rattle.std.specs.Float.Ieee.{of_bits}
use Rattle.endian.specs.Bytes.{store_u64, store_f64}
use Rattle.mappings.specs.Mapping.{Fitted}
use Rattle.mappings.specs.declared.mapping.Mapping.{Mapping}
use Rattle.inverse.specs.Inverse.{inverse}
use Rattle.point.specs.declared.point.Point.{Point}
use Rattle.probe_fit.specs.Sized.{sized_fit}
use Rattle.window.specs.View.{flag}

abbrev pub store_point : List ℕ → ℕ → Point → List ℕ
store_point out at p = store_u64 (store_f64 (store_f64 out at p.u) (at + 8) p.v) (at + 16) (flag p.usable)

abbrev pub point_of : Mapping → Float → Float → Point
point_of m x y = inverse m.kind m.order m.count m.coef x y

unfoldable pub pointed : Fitted → Float → Float → List ℕ → ℕ × List ℕ
pointed f x y out = cond (eqb f.refusal 0) (0, store_point out 0 (point_of f.mapping x y)) (f.refusal, out)

-- x and y are the bits of the output point
unfoldable pub probe_inverse : ℕ → List ℕ → ℕ → ℕ → ℕ → ℕ → List ℕ → ℕ × List ℕ
probe_inverse method bytes width height x y out =
    pointed (sized_fit method bytes width height) (of_bits binary64 x) (of_bits binary64 y) out
