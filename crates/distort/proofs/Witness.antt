-- No number of the table is out of reach, and calls are accepted: one for each, computed from one list. Assumes
-- nothing.
use mathlib.Core.Path.{◌≡◌, refl}
use mathlib.Core.List.{List, [], ◌∷◌, ◌++◌, map}
use Prim.Native.Nat.{ℕ}
use lib.IntN.{pos}
use lib.ListN.{replicate}
use lib.Ieee.{
  of_bits,
  of_fields,
  of_int,
  odd,
  lt,
  le,
  eq,
  add,
  sub,
  mul,
  div,
  neg,
  is_nan,
  sum,
  round,
  units,
  size,
  span,
  climb,
}
use Rattle.exact.specs.Loop.{turns, up_to}
use Rattle.exact.specs.Table.{first_of}
use Rattle.endian.specs.Bytes.{number_at}
use Rattle.number.specs.Magnitude.{abs, within}
use Rattle.arguments.specs.Method as Method
use Rattle.arguments.specs.Method.{present, skip, least_pairs}
use Rattle.arguments.specs.Order.{bilinear_order, degree, terms_of, good_order}
use Rattle.arguments.specs.Store.{held_of, zero_arguments, keep, values_of, order_of}
use Rattle.arguments.specs.Refusal as Arguments
use Rattle.arguments.proofs.Witness.{zeros, float}
use Rattle.fit.specs.Affine.{fit_affine_projection, shift, fit_affine}
use Rattle.fit.specs.Build.{made, build}
use Rattle.linear.specs.Invert.{invert_affine}
use Rattle.mappings.specs.Mapping.{mapping, refused, solved_or8}
use Rattle.window.specs.Extent.{good_offset, good_length, held}
use Rattle.window.specs.Window.{of_extents, window}
use Rattle.picture.specs.Pixel.{widened, pixel_at}
use Rattle.distort.specs.Job.{Image, Call, image_of, call_of}
use Rattle.distort.specs.Refusal.{
  fit_of,
  window_of,
  widest,
  bad_side,
  bad_channels,
  bad_size,
  bad_stock,
  bad_code,
  large,
  bad_number,
  degenerate,
  bad_window,
  bad_rows,
  bad_tray,
  refusal,
}

-- one grey pixel
abbrev grey : List ℕ → Image
grey bytes = image_of bytes 1 1 1

abbrev black : Image
black = grey (replicate 4 0)

-- under `Edge`, `Bilinear` and a clear background, so that the output has four channels
abbrev ask : Image → ℕ → List ℕ → ℕ → ℕ → ℕ → ℕ → Call
ask p method arguments viewport first rows room =
    call_of p.bytes p.width p.height p.channels method arguments 0 5 (replicate 16 0) (replicate 16 0) 0
    viewport 0 0 (pos 0) (pos 0) first rows (replicate room 0)

abbrev pub calls : List Call
calls =
    ask black Method.affine_code (zeros 4) 0 0 1 16  -- one pair at the origin, all of the one row
    ∷ (ask black Method.affine_code (zeros 4) 0 1 0 0  -- no rows
    ∷ (ask (image_of (replicate 8 0) 1 2 1) Method.affine_code (zeros 4) 0 1 1 16  -- the second of two rows
    ∷ (ask (image_of [] 0 1 1) Method.affine_code (zeros 4) 0 0 1 16
    ∷ (ask (grey (replicate 3 0)) Method.affine_code (zeros 4) 0 0 1 16
    ∷ (ask black 2 (zeros 4) 0 0 1 16  -- `ScaleRotateTranslate`
    ∷ (ask black Method.affine_code (zeros 3) 0 0 1 16  -- no whole pair
    ∷ (ask (grey (1 ∷ (0 ∷ (0x80 ∷ (0x47 ∷ []))))) Method.affine_code (zeros 4) 0 0 1 16  -- the f32 after 65,536
    ∷ (ask black Method.polynomial_code (float 0x18 0x40 ++ zeros 4) 0 0 1 16  -- order 6
    ∷ (ask black Method.perspective_code (zeros 4) 0 0 1 16  -- one pair
    ∷ (ask black Method.affine_projection_code (zeros 6) 0 0 1 16
    ∷ (ask black Method.affine_code (zeros 4) 1 0 1 16  -- a viewport of 0 by 0
    ∷ (ask black Method.affine_code (zeros 4) 0 1 1 16
    ∷ (ask black Method.affine_code (zeros 4) 0 0 1 15
    ∷ [])))))))))))))

pub numbers : map refusal calls ≡ 0 ∷ (0 ∷ (0 ∷ (1 ∷ (2 ∷ (3 ∷ (4 ∷ (5 ∷ (6 ∷ (7 ∷ (8 ∷ (9 ∷ (10 ∷ (11 ∷ [])))))))))))))
unfolding refusal first_of bad_side bad_channels bad_size bad_stock bad_code large bad_number degenerate bad_window bad_rows
    bad_tray fit_of window_of widest widened pixel_at present skip least_pairs Arguments.arguments_refusal Arguments.bad_count
    Arguments.bad_for Arguments.bad_values Arguments.bad_argument Arguments.still_good Arguments.good_number
    Arguments.bad_order Arguments.pairs_of Arguments.few_pairs good_order terms_of bilinear_order degree held_of zero_arguments
    keep values_of order_of build made fit_affine shift fit_affine_projection invert_affine mapping refused solved_or8 window
    of_extents held good_offset good_length up_to turns within abs number_at of_bits of_fields of_int odd lt le eq add sub mul
    div neg is_nan sum round units size span climb
numbers = refl
