-- The fit of a picture of any size: 1 for a width or height that no picture has, else the fit's own answer. Assumes
-- nothing.
use Rattle.std.specs.Prelude.{ℕ, cond, ◌||◌, List}
use Rattle.fit.specs.Build.{build}
use Rattle.mappings.specs.Mapping.{Fitted, refused}
use Rattle.picture.specs.Size.{bad_side}

unfoldable pub sized_fit : ℕ → List ℕ → ℕ → ℕ → Fitted
sized_fit method bytes width height =
    cond (bad_side width || bad_side height) (refused 1) (build method bytes width height)
