-- The points that the kind's own rule gives are those of `inverse`. Assumes nothing.
use mathlib.Core.Path.{◌≡◌}
use mathlib.Core.List.{List}
use Prim.Native.Nat.{ℕ, ◌+◌}
use lib.Ieee.{Float, binary64, of_int}
use Rattle.exact.specs.Sums.{asked}
use Rattle.point.specs.declared.point.Point.{Point}
use Rattle.inverse.specs.Inverse.{inverse}
use Rattle.inverse.specs.declared.frame.Frame.{Frame}
use Rattle.inverse.proofs.WholePoints.{inverse_whole}
use Rattle.fast_points.specs.Points.{pixel_middle, KeptRow, RowBy, Points}
use Rattle.fast_points.proofs.FillLaws.{kept_points}

pub points_by : (f : Frame) (first j n : ℕ) {a b : Float} {us vs : List Float} {post : Float → Point → Type 0}
    → a ≡ of_int binary64 f.x → b ≡ asked j f.y → KeptRow post a first n us vs
    → ((c : Float) (p : Point) → post c p
    → p ≡ inverse f.mapping.now.kind f.mapping.now.order f.mapping.now.count f.mapping.now.coef c b)
    → Points f first j n us vs
points_by f first j n {a} {b} {post = post} e g s same =
    let m = f.mapping.now in
    record {
      kept = λ k l. rw (← e, ← g)
          ((kept_points (RowBy post a first)
          (λ (i : ℕ). inverse m.kind m.order m.count m.coef (pixel_middle (first + i) a) b) n
          (λ i h p q. same (pixel_middle (first + i) a) p q)
          (λ i. inverse_whole m.kind m.order m.count m.coef (pixel_middle (first + i) a) b) s.row).kept k l);
    }
