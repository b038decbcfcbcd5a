-- Where no test of the domain applies, the bytes are a picture's, the background is a pixel, and the coordinates are
-- reached. Assumes nothing.
use mathlib.Core.Path.{◌≡◌, sym}
use mathlib.Core.Bool.{Bool, true, false, ◌||◌, true≢false}
use mathlib.Core.List.{List}
use Prim.Native.Nat.{ℕ}
use lib.Dec.{T}
use lib.ListN.{length}
use lib.Ieee.{binary64, of_bits}
use borrow.Author.Tests.{not-false}
use Rattle.probe_sampler.specs.Sampled.{sample_count, wrong_picture, wrong_codes, large, far_coordinate, unfit_sample}
use Rattle.taps.specs.Cell.{index_limit, Reached}
use Rattle.picture.specs.Pixel.{Shaped, Picture}
use Rattle.picture.specs.Size.{bad_size, bad_stock}
use Rattle.picture.specs.declared.shape.Shape.{Shape}
use Rattle.picture.proofs.SizeLaws.{picture_fit, pixel_picture}
use Rattle.exact.proofs.Booleans.{or_false}
use Rattle.number.specs.Magnitude.{within}

pub shape_fit : (bytes : List ℕ) (s : Shape) → wrong_picture bytes s ≡ false
    → (bad_size s.width s.height s.channels ≡ false)
    × (bad_stock bytes s.width s.height s.channels ≡ false)
unfolding wrong_picture
shape_fit bytes s f =
    or_false (bad_size s.width s.height s.channels) (bad_stock bytes s.width s.height s.channels) f

pub reached : (x : ℕ) → far_coordinate x ≡ false → Reached (of_bits binary64 x)
unfolding far_coordinate
reached x h = holds (within index_limit (of_bits binary64 x)) (not-false (within index_limit (of_bits binary64 x)) h)
  where
    holds : (t : Bool) → t ≡ true → T t
    holds true e = tt
    holds false e = absurd (true≢false (sym e))

pub outside_fit : (bytes : List ℕ) (s : Shape) (policy code : ℕ) (background : List ℕ) (x y : ℕ)
    → unfit_sample bytes s policy code background x y ≡ false
    → Shaped bytes s
    × ((length background ≡ 16 → Picture background 1 1 4)
    × (Reached (of_bits binary64 x) × Reached (of_bits binary64 y)))
unfolding unfit_sample large
outside_fit bytes s policy code background x y f =
    let r : Bool = far_coordinate x || far_coordinate y in
    let q : Bool = large background 4 || r in
    let p : Bool = large bytes (sample_count s) || q in
    let t = or_false (wrong_picture bytes s) (wrong_codes policy code || p) f in
    let u = or_false (wrong_codes policy code) p t.1 in
    let v = or_false (large bytes (sample_count s)) q u.1 in
    let k = or_false (large background 4) r v.1 in
    let l = or_false (far_coordinate x) (far_coordinate y) k.1 in
    let z = shape_fit bytes s t.0 in (
      picture_fit bytes s.width s.height s.channels z.0 z.1 v.0,
      (λ e. pixel_picture background e k.0, (reached x l.0, reached y l.1)),
    )
