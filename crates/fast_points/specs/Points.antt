-- The source points of a span of a row, by their coordinates in two lists: each point is `point` of its own
-- coordinates, so what is read back is that point. Assumes nothing.
use Rattle.std.specs.Prelude.{◌≡◌, List, ℕ, ◌+◌, ◌<◌, pos, Float}
use Rattle.std.specs.Float.{binary64}
use Rattle.std.specs.Float.Ieee.{of_int}
use Rattle.exact.specs.Double.{◌⊕◌, half}
use Rattle.exact.specs.Sums.{asked}
use Rattle.exact.specs.Vector.{at}
use Rattle.point.specs.declared.point.Point.{Point}
use Rattle.point.specs.Point.{point}
use Rattle.inverse.specs.Inverse.{inverse}
use Rattle.inverse.specs.declared.frame.Frame.{Frame}

-- `asked` with the offset as a float
abbrev pub pixel_middle : ℕ → Float → Float
pixel_middle i x = of_int binary64 (pos i) ⊕ x ⊕ half

-- the first n of two lists: the coordinates of the points that g numbers
pub record KeptPoints (g : ℕ → Point) (n : ℕ) (us vs : List Float) : Type 0 where
  pub kept : (k : ℕ) → k < n → g k ≡ point (at us k) (at vs k)

-- of those that a rule gives, told by what its calls may return
pub record KeptBy (post : ℕ → Point → Type 0) (n : ℕ) (us vs : List Float) : Type 0 where
  pub kept : (k : ℕ) → k < n → (p : Point) × post k p × (p.u ≡ at us k) × (p.v ≡ at vs k)

-- a rule that is asked at the middle of the k-th pixel from column `first` on, of a window at x
abbrev pub RowBy : (Float → Point → Type 0) → Float → ℕ → ℕ → Point → Type 0
RowBy post x first k p = post (pixel_middle (first + k) x) p

pub record KeptRow (post : Float → Point → Type 0) (x : Float) (first n : ℕ) (us vs : List Float) : Type 0 where
  pub row : KeptBy (RowBy post x first) n us vs

-- of the pixels' from column `first` of row j on, of the frame's window
abbrev pub Points : Frame → ℕ → ℕ → ℕ → List Float → List Float → Type 0
Points f first j n us vs =
    let m = f.mapping.now in
    KeptPoints (λ (k : ℕ). inverse m.kind m.order m.count m.coef (asked (first + k) f.x) (asked j f.y)) n us vs
