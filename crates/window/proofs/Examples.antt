-- Worked windows, by computation. The identity with bestfit on 4 by 3 is 6 by 5 at -1, -1; a given viewport wins over
-- bestfit, and with a side of 0 it is refused. Assumes nothing.
use Rattle.std.proofs.Common.{◌≡◌, ℕ, true, ◌∷◌, ℤ, pos, negsuc, refl}
use lib.Ieee.{
  of_bits,
  of_fields,
  of_int,
  odd,
  lt,
  eq,
  add,
  sub,
  mul,
  div,
  neg,
  is_nan,
  sum,
  round,
  units,
  size,
  span,
  climb,
}
use Rattle.number.specs.Floor.{floorℤ}
use Rattle.number.specs.Magnitude.{abs, fmin, fmax}
use Rattle.exact.specs.Double.{one}
use Rattle.linear.specs.Invert.{invert_affine}
use Rattle.mappings.specs.Mapping.{affine_kind}
use Rattle.exact.specs.Vector.{Vector}
use Rattle.linear.specs.Matrix.{nought}
use Rattle.window.specs.declared.view.View.{View}
use Rattle.std.specs.Prelude.{Some, None}
use Rattle.window.specs.Placed.{Window, Refused}
use Rattle.window.specs.Bestfit.{affine_found, bestfit}
use Rattle.window.specs.Ceil.{ceilℤ}
use Rattle.window.specs.Edges.{unbounded, grown, boxed}
use Rattle.window.specs.Extent.{good_offset, good_length, held, at_least_one, from_to, extent_of}
use Rattle.window.specs.Window.{of_extents, judged, window}

-- bestfit is asked for; a viewport is given besides, or not
abbrev at : ℕ → ℕ → ℤ → ℤ → View
at w h x y = record { bestfit = true; viewport = Some (record { width = w; height = h; x = x; y = y }) }

abbrev around : View
around = record { bestfit = true; viewport = None }

-- u = x, v = y; what stands after the six coefficients is not read
pub identity : (rest : Vector)
    → window affine_kind (one ∷ nought ∷ nought ∷ nought ∷ one ∷ nought ∷ rest) 4 3 around
    ≡ Window 6 5 (negsuc 0) (negsuc 0)
unfolding window judged of_extents extent_of from_to held at_least_one good_offset good_length bestfit affine_found invert_affine
    unbounded grown boxed floorℤ ceilℤ abs fmin fmax of_bits of_fields of_int odd lt eq add sub mul div neg is_nan sum
    round units size span climb
identity rest = refl

-- the same with the zeros that an inverted identity has
pub inverted_identity : (rest : Vector)
    → window affine_kind (one ∷ neg nought ∷ neg nought ∷ neg nought ∷ one ∷ neg nought ∷ rest) 4 3 around
    ≡ Window 6 5 (negsuc 0) (negsuc 0)
unfolding window judged of_extents extent_of from_to held at_least_one good_offset good_length bestfit affine_found invert_affine
    unbounded grown boxed floorℤ ceilℤ abs fmin fmax of_bits of_fields of_int odd lt eq add sub mul div neg is_nan sum
    round units size span climb
inverted_identity rest = refl

pub viewport : (coef : Vector) → window affine_kind coef 4 3 (at 7 4096 (pos 1048576) (negsuc 1048575))
    ≡ Window 7 4096 (pos 1048576) (negsuc 1048575)
unfolding window of_extents held good_offset good_length
viewport coef = refl

pub no_side : (coef : Vector) → window affine_kind coef 4 3 (at 0 3 (pos 0) (pos 0)) ≡ Refused
unfolding window of_extents held good_offset good_length
no_side coef = refl
