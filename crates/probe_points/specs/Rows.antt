-- Whole rows of source points handed out by one fit: the refusal's number, or 0 with each point as `Pointed` writes
-- one, row by row. A refusal writes nothing. Assumes nothing.
use Rattle.std.specs.Prelude.{ℕ, ◌+◌, ◌-◌, ◌*◌, Bool, cond, not, ◌||◌, List, eqb, ltb, ℤ, length, Float}
use Rattle.exact.specs.Limits.{largest_side}
use Rattle.exact.specs.Loop.{up_to}
use Rattle.exact.specs.Sums.{asked}
use Rattle.exact.specs.Vector.{at}
use Rattle.mappings.specs.Mapping.{Fitted}
use Rattle.mappings.specs.declared.mapping.Mapping.{Mapping}
use Rattle.point.specs.Point.{point}
use Rattle.inverse.specs.Inverse.{inverse}
use Rattle.window.specs.Extent.{good_offset}
use Rattle.probe_points.specs.Pointed.{store_point}
use Rattle.probe_fit.specs.Sized.{sized_fit}

-- column i, by lists of coordinates that start with column `first`; the row's first point is the one numbered `place`
unfoldable pub store_kept : List Float → List Float → ℕ → ℕ → ℕ → List ℕ → List ℕ
store_kept us vs first place i out = store_point out ((place + i) * 24) (point (at us (i - first)) (at vs (i - first)))

-- column i of row j, of a window at x, y
unfoldable pub store_column : Mapping → ℤ → ℤ → ℕ → ℕ → ℕ → List ℕ → List ℕ
store_column m x y j place i out =
    store_point out ((place + i) * 24) (inverse m.kind m.order m.count m.coef (asked i x) (asked j y))

-- the row numbered r of those from `first` on
unfoldable pub store_row : Mapping → ℤ → ℤ → ℕ → ℕ → ℕ → List ℕ → List ℕ
store_row m x y width first r out = up_to (store_column m x y (first + r) (r * width)) 0 width out

-- beyond the limits of a window, or not 24 bytes for each point
unfoldable pub wrong_rows : ℕ → ℤ → ℤ → ℕ → ℕ → ℕ → Bool
wrong_rows width x y first rows out =
    (ltb largest_side width || (ltb largest_side first || ltb largest_side rows))
    || (not (good_offset x) || (not (good_offset y)
    || (ltb largest_side (first + rows) || not (eqb out (rows * width * 24)))))

abbrev pub store_rows : Mapping → ℤ → ℤ → ℕ → ℕ → ℕ → List ℕ → List ℕ
store_rows m x y width first rows out = up_to (store_row m x y width first) 0 rows out

unfoldable pub rows_answer : Fitted → ℕ → ℤ → ℤ → ℕ → ℕ → List ℕ → ℕ × List ℕ
rows_answer f width x y first rows out =
    cond (eqb f.refusal 0)
    (cond (wrong_rows width x y first rows (length out)) (12, out) (0, store_rows f.mapping x y width first rows out))
    (f.refusal, out)

unfoldable pub probe_rows : ℕ → List ℕ → ℕ → ℕ → ℤ → ℤ → ℕ → ℕ → List ℕ → ℕ × List ℕ
probe_rows method bytes width height x y first rows out =
    rows_answer (sized_fit method bytes width height) width x y first rows out
