-- A call whose mapping and window are known: rows and band are tested, and then the rows are worked. Each gives the
-- answer, and the band afterwards. Assumes nothing.
use Rattle.std.specs.Prelude.{ℕ, ◌+◌, ◌*◌, not, cond, List, eqb, ltb, length}
use Rattle.window.specs.Placed.{Placed}
use Rattle.window.specs.Placed.{Window}
use Rattle.distort.specs.Answer.{Answer}
use Rattle.distort.specs.Answer.{Accepted, Refused}
use Rattle.band.specs.Band.{Mapped, Source, mapped, rows_bytes, rows_matte_pixels}
use Rattle.band.specs.declared.rows.Rows.{Rows}
use Rattle.mappings.specs.declared.mapping.Mapping.{Mapping}
use Rattle.picture.specs.declared.shape.Shape.{Shape}

-- in a window of the output's shape
unfoldable pub in_window : Source → Mapped → Shape → Rows → List ℕ → Answer × List ℕ
in_window s f out rows band =
    cond (ltb out.height (rows.first + rows.count)) (Refused 10, band)
    (cond (not (eqb (length band) (rows.count * out.width * out.channels * 4))) (Refused 11, band) (
      Accepted out.width out.height f.x f.y out.channels
          (rows_matte_pixels f out.width rows.first rows.count),
      rows_bytes s f out.channels out.width rows.first rows.count,
    ))

-- or where there is none
unfoldable pub windowed : Placed → Source → Mapping → ℕ → Rows → List ℕ → Answer × List ℕ
windowed (Window width height x y) s m channels rows band =
    in_window s (mapped m x y) (record { width = width; height = height; channels = channels }) rows band
windowed Placed.Refused s m channels rows band = (Refused 9, band)
