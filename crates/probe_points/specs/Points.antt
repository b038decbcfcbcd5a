-- Many source points handed out by one fit: the refusal's number, or 0 with each point as `Pointed` writes one. A
-- refusal writes nothing. Assumes nothing.
use Rattle.std.specs.Prelude.{ℕ, ◌+◌, ◌*◌, ◌/◌, ◌%◌, Bool, cond, not, ◌||◌, List, eqb, length, Float}
use Rattle.exact.specs.Loop.{up_to}
use Rattle.endian.specs.Bytes.{f64_at}
use Rattle.mappings.specs.Mapping.{Fitted}
use Rattle.mappings.specs.declared.mapping.Mapping.{Mapping}
use Rattle.inverse.specs.Inverse.{inverse}
use Rattle.probe_points.specs.Pointed.{store_point}
use Rattle.probe_fit.specs.Sized.{sized_fit}

-- not 16 bytes for each point asked for (the bits of x and y), and 24 for each answer
unfoldable pub wrong_lengths : ℕ → ℕ → Bool
wrong_lengths points out = not (eqb (points % 16) 0) || (not (eqb (out % 24) 0) || not (eqb (points / 16) (out / 24)))

-- the point numbered k
unfoldable pub store_next : Mapping → List ℕ → ℕ → List ℕ → List ℕ
store_next m points k out =
    store_point out (k * 24)
    (inverse m.kind m.order m.count m.coef (f64_at points (k * 16)) (f64_at points (k * 16 + 8)))

abbrev pub store_all : Mapping → List ℕ → List ℕ → List ℕ
store_all m points out = up_to (store_next m points) 0 (length points / 16) out

unfoldable pub points_of : Fitted → List ℕ → List ℕ → ℕ × List ℕ
points_of f points out =
    cond (eqb f.refusal 0)
    (cond (wrong_lengths (length points) (length out)) (12, out) (0, store_all f.mapping points out))
    (f.refusal, out)

unfoldable pub probe_points : ℕ → List ℕ → ℕ → ℕ → List ℕ → List ℕ → ℕ × List ℕ
probe_points method bytes width height points out = points_of (sized_fit method bytes width height) points out
