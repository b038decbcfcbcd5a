-- In an opaque place every colour that is named is opaque, at every index of the plane and under each of the thirteen
-- policies: a pixel that is named lies inside, and no policy but `Transparent` names the clear colour. Provides:
-- `named_solid`, `one_unit`, `pixel_opaque`, `at_opaque`. Assumes nothing.
use mathlib.Core.Path.{◌≡◌, refl, sym, subst}
use mathlib.Core.Bool.{Bool, true, false, cond, ◌&&◌}
use mathlib.Core.List.{List}
use mathlib.Core.Logic.{⊎_elim}
use Prim.Native.Nat.{ℕ, ◌+◌, ◌*◌, ◌%◌, ◌≤◌, ◌<◌}
use native.Mathlib.Nat.{mul-le-mul_right}
use native.Mathlib.Omega.{arith}
use lib.Dec.{eqb, lit≤}
use lib.IntN.{ℤ}
use lib.Signed.{mag}
use lib.Ieee.{of_bits, fits}
use Rattle.exact.specs.Weighted.{Unit32}
use Rattle.picture.specs.At.{at}
use Rattle.picture.specs.Colour.{zero, half, one}
use Rattle.policies.specs.Index.{in_range, tile, parity}
use Rattle.policies.specs.Named.{policy, picked, outside, named}
use Rattle.policies.specs.declared.policy.Policy.{Policy}
use Rattle.policies.specs.declared.policy.Policy.TheVariants.{
  Edge,
  Background,
  Black,
  White,
  Gray,
  Transparent,
  Tile,
  Mirror,
  HorizontalTile,
  VerticalTile,
  HorizontalTileEdge,
  VerticalTileEdge,
  CheckerTile,
  Random,
}
use Rattle.sampler.specs.Opaque.{OpaquePicture, OpaquePlace}
use Rattle.picture.specs.Pixel.{widened, pixel_at}
use Rattle.taps.specs.Weighted.{Opaque}
use Rattle.picture.specs.declared.colour.Rgba.{Rgba}
use Rattle.policies.specs.declared.named.Tap.{Tap}
use Rattle.picture.proofs.AtLaws.{Solid, at_keep}
use Rattle.picture.proofs.PixelCode.{number_lt}

-- ---- what is named is not the clear colour
either : (t : Bool) (p q : Tap) → Solid p → Solid q → Solid (cond t p q)
either true p q f g = f
either false p q f g = g

outside_solid : (p : Policy) → (p ≡ Transparent → ⊥) → (w h : ℕ) (x y : ℤ) → Solid (outside p w h x y)
unfolding picked
outside_solid Edge f w h x y = tt
outside_solid Background f w h x y = tt
outside_solid Black f w h x y = tt
outside_solid White f w h x y = tt
outside_solid Gray f w h x y = tt
outside_solid Transparent f w h x y = f refl
outside_solid Tile f w h x y = tt
outside_solid Mirror f w h x y = tt
outside_solid HorizontalTile f w h x y = either (in_range y h) (Tap.Pixel (tile x w) (mag y)) Tap.Background tt tt
outside_solid VerticalTile f w h x y = either (in_range x w) (Tap.Pixel (mag x) (tile y h)) Tap.Background tt tt
outside_solid HorizontalTileEdge f w h x y = tt
outside_solid VerticalTileEdge f w h x y = tt
outside_solid CheckerTile f w h x y =
    either (eqb ((parity x w + parity y h) % 2) 0) (Tap.Pixel (tile x w) (tile y h)) Tap.Background tt tt
outside_solid Random f w h x y = tt

pub named_solid : (code w h : ℕ) → (policy code ≡ Transparent → ⊥) → (x y : ℤ) → Solid (named code w h x y)
unfolding named
named_solid code w h f x y =
    either (in_range x w && in_range y h) (Tap.Pixel (mag x) (mag y)) (outside (policy code) w h x y) tt
    (outside_solid (policy code) f w h x y)

-- ---- the constants
zero_unit : Unit32 zero
unfolding of_bits fits
zero_unit = record { number = tt; held = tt; unit = (record { le = lit≤ tt }, record { le = lit≤ tt }) }

half_unit : Unit32 half
unfolding of_bits fits
half_unit = record { number = tt; held = tt; unit = (record { le = lit≤ tt }, record { le = lit≤ tt }) }

pub one_unit : Unit32 one
unfolding of_bits fits
one_unit = record { number = tt; held = tt; unit = (record { le = lit≤ tt }, record { le = lit≤ tt }) }

-- ---- a pixel of the picture
-- sample i of pixel n
below : (w h c n i : ℕ) → n + 1 ≤ h * w → i < c → n * c + i < w * h * c
below w h c n i g l = go (mul-le-mul_right c g)
  where
    go : (n + 1) * c ≤ h * w * c → n * c + i < w * h * c
    go k = omega arith

first : (w h c n : ℕ) → n + 1 ≤ h * w → 0 < c → n * c < w * h * c
first w h c n g l = let k = below w h c n 0 g l in omega arith

pixel_count : (w h n : ℕ) → n + 1 ≤ h * w → n < w * h
pixel_count w h n g = omega arith

three : (bytes : List ℕ) (w h n : ℕ) → n + 1 ≤ h * w → OpaquePicture bytes w h 3 → Opaque (widened bytes 3 (n * 3))
unfolding widened
three bytes w h n g P = record {
  red = P.samples (n * 3) (first w h 3 n g (lit≤ tt));
  green = P.samples (n * 3 + 1) (below w h 3 n 1 g (lit≤ tt));
  blue = P.samples (n * 3 + 2) (below w h 3 n 2 g (lit≤ tt));
  alpha = refl;
}

four : (bytes : List ℕ) (w h n : ℕ) → n + 1 ≤ h * w → OpaquePicture bytes w h 4 → Opaque (widened bytes 4 (n * 4))
unfolding widened
four bytes w h n g P = record {
  red = P.samples (n * 4) (first w h 4 n g (lit≤ tt));
  green = P.samples (n * 4 + 1) (below w h 4 n 1 g (lit≤ tt));
  blue = P.samples (n * 4 + 2) (below w h 4 n 2 g (lit≤ tt));
  alpha = P.alphas refl n (pixel_count w h n g);
}

module _ (bytes : List ℕ) (w h channels : ℕ) (P : OpaquePicture bytes w h channels) where
  pub pixel_opaque : (x y : ℕ) → x < w → y < h → Opaque (pixel_at bytes w channels x y)
  unfolding pixel_at
  pixel_opaque x y hx hy =
      ⊎_elim (λ (e : channels ≡ 3). along 3 e (three bytes w h (y * w + x) (number_lt w h x y hx hy)))
      (λ (e : channels ≡ 4). along 4 e (four bytes w h (y * w + x) (number_lt w h x y hx hy)))
      P.colours
    where
      along : (c : ℕ) → channels ≡ c → (OpaquePicture bytes w h c → Opaque (widened bytes c ((y * w + x) * c)))
          → Opaque (widened bytes channels ((y * w + x) * channels))
      along c e f = subst (λ (n : ℕ). OpaquePicture bytes w h n → Opaque (widened bytes n ((y * w + x) * n))) (sym e) f
          P

-- ---- the law
pub at_opaque : (bytes : List ℕ) (w h channels code : ℕ) (background : Rgba)
    → OpaquePlace bytes w h channels code background → (i j : ℤ) → Opaque (at bytes w h channels code background i j)
at_opaque bytes w h channels code background O i j =
    at_keep Opaque bytes w h channels (pixel_opaque bytes w h channels O.inside) background O.around
    (record { red = zero_unit; green = zero_unit; blue = zero_unit; alpha = refl })
    (record { red = one_unit; green = one_unit; blue = one_unit; alpha = refl })
    (record { red = half_unit; green = half_unit; blue = half_unit; alpha = refl }) O.inside.picture code i j
    (λ f. absurd (f (named_solid code w h O.solid i j)))
