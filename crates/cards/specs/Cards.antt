-- The trial cards that are proved (specification 12.2), as rows of one table: what the definitions give, and what the
-- card says.
-- Assumes nothing.
use Rattle.std.specs.Prelude.{ℕ, ◌≡◌, true, List, [], ◌∷◌, ◌++◌, ℤ, pos, negsuc, replicate, Float}
use Rattle.std.specs.Float.{binary32, binary64}
use Rattle.std.specs.Float.Ieee.{of_bits}
use Rattle.endian.specs.Bytes.{store_u32, store_u64}
use Rattle.arguments.specs.Method as Method
use Rattle.fit.specs.Build.{build}
use Rattle.mappings.specs.declared.mapping.Mapping.{Mapping}
use Rattle.inverse.specs.Inverse.{inverse}
use Rattle.point.specs.declared.point.Point.{Point}
use Rattle.cubic.specs.Cubic.{catrom}
use Rattle.sampler.specs.Interpolate.{interpolate}
use Rattle.policies.specs.Named.{edge_code, tile_code, mirror_code, checker_tile_code, named}
use Rattle.taps.specs.Interpolation.{nearest_code, bilinear_code}
use Rattle.picture.specs.declared.colour.Rgba.{Rgba}
use Rattle.policies.specs.declared.named.Tap.{Tap}
use Rattle.window.specs.Placed.{Placed}
use Rattle.distort.specs.Job.{Image, Given, Call}
use Rattle.distort.specs.Refusal.{window_of, refusal}

-- ---- what a card shows
pub data Shown : Type 0 where
  Named : Tap → Shown
  Weights : List Float → Shown
  Colour : Rgba → Shown
  Refusal : ℕ → Shown
  Window : Placed → Shown
  Source : Point → Shown

-- ---- bytes and floats by their bits
abbrev pub f64s : List ℕ → List ℕ
f64s [] = []
f64s (b ∷ bs) = store_u64 (replicate 8 0) 0 b ++ f64s bs

abbrev pub f32s : List ℕ → List ℕ
f32s [] = []
f32s (b ∷ bs) = store_u32 (replicate 4 0) 0 b ++ f32s bs

abbrev pub double : ℕ → Float
double = of_bits binary64

abbrev pub f32_of : ℕ → Float
f32_of = of_bits binary32

abbrev pub grey_bits : ℕ → ℕ → Rgba
grey_bits v alpha = record { r = f32_of v; g = f32_of v; b = f32_of v; a = f32_of alpha }

-- ---- calls: a grey picture, `Edge`, `Nearest`, opaque black around and for matte
abbrev pub opaque_black : List ℕ
opaque_black = f32s (0 ∷ 0 ∷ 0 ∷ 0x3f80_0000 ∷ [])

abbrev pub image : ℕ → ℕ → ℕ → Image
image width height size = record { bytes = replicate size 0; width = width; height = height; channels = 1 }

abbrev pub card_of : ℕ → List ℕ → ℕ → Given
card_of method arguments bestfit = record {
  method = method;
  arguments = f64s arguments;
  policy = edge_code;
  interpolation = nearest_code;
  background = opaque_black;
  matte = opaque_black;
  bestfit = bestfit;
  viewport = 0;
  view_width = 0;
  view_height = 0;
  view_x = pos 0;
  view_y = pos 0;
}

-- for no rows
abbrev pub without_rows : Image → Given → Call
without_rows p g = record { image = p; given = g; first = 0; rows = 0; band = [] }

-- ---- the arguments of the cards
-- 1, 2, 2, 4, 0, 0
abbrev pub singular : List ℕ
singular = 0x3ff0_0000_0000_0000 ∷ 0x4000_0000_0000_0000 ∷ 0x4000_0000_0000_0000 ∷ 0x4010_0000_0000_0000 ∷ 0 ∷ 0 ∷ []

-- 1, 0, 0, 1, 0, 0
abbrev pub identity : List ℕ
identity = 0x3ff0_0000_0000_0000 ∷ 0 ∷ 0 ∷ 0x3ff0_0000_0000_0000 ∷ 0 ∷ 0 ∷ []

-- order 2.5, and then nine pairs
abbrev pub nine_pairs : List ℕ
nine_pairs = 0x4004_0000_0000_0000 ∷ replicate 36 0

abbrev pub barrel_at : ℕ → ℕ → Mapping → Point
barrel_at x y m = inverse m.kind m.order m.count m.coef (double x) (double y)

-- opaque 1 beside a clear pixel, in four channels
abbrev pub half_clear : List ℕ
half_clear = f32s (0x3f80_0000 ∷ 0x3f80_0000 ∷ 0x3f80_0000 ∷ 0x3f80_0000 ∷ 0 ∷ 0 ∷ 0 ∷ 0 ∷ [])

-- ---- the table
abbrev pub on_column : ℕ → ℤ → Shown
on_column policy x = Named (named policy 4 1 x (pos 0))

abbrev pub on_checker : ℤ → ℤ → Shown
on_checker x y = Named (named checker_tile_code 2 2 x y)

abbrev pub table : List (Shown × Shown)
table =
    -- width 4, `Mirror`: -1 gives 0, -5 gives 3, 4 gives 3, 8 gives 0
    (on_column mirror_code (negsuc 0), Named (Tap.Pixel 0 0))
    ∷ ((on_column mirror_code (negsuc 4), Named (Tap.Pixel 3 0))
    ∷ ((on_column mirror_code (pos 4), Named (Tap.Pixel 3 0))
    ∷ ((on_column mirror_code (pos 8), Named (Tap.Pixel 0 0))
    -- `Tile`: -1 gives 3, 4 gives 0
    ∷ ((on_column tile_code (negsuc 0), Named (Tap.Pixel 3 0))
    ∷ ((on_column tile_code (pos 4), Named (Tap.Pixel 0 0))
    -- 2 by 2 `CheckerTile`: (2, 0) and (-1, 0) background; (2, 2) is pixel (0, 0)
    ∷ ((on_checker (pos 2) (pos 0), Named Tap.Background)
    ∷ ((on_checker (negsuc 0) (pos 0), Named Tap.Background)
    ∷ ((on_checker (pos 2) (pos 2), Named (Tap.Pixel 0 0))
    -- `Catrom` at 0: 0, 1, 0, 0; at 0.5: -0.0625, 0.5625, 0.5625, -0.0625
    ∷ ((Weights (catrom (f32_of 0)), Weights (f32_of 0 ∷ f32_of 0x3f80_0000 ∷ f32_of 0 ∷ f32_of 0 ∷ []))
    ∷ ((
      Weights (catrom (f32_of 0x3f00_0000)),
      Weights (f32_of 0xbd80_0000 ∷ f32_of 0x3f10_0000 ∷ f32_of 0x3f10_0000
          ∷ f32_of 0xbd80_0000 ∷ []),
    )
    -- halfway between opaque 1 and a clear pixel: colour 1, alpha 0.5
    ∷ ((
      Colour (interpolate half_clear 2 1 4 edge_code bilinear_code (grey_bits 0 0) (double 0x3fe0_0000_0000_0000)
          (double 0)),
      Colour (grey_bits 0x3f80_0000 0x3f00_0000),
    )
    -- `AffineProjection` 1, 2, 2, 4, 0, 0: refusal 8
    ∷ ((Refusal (refusal (without_rows (image 1 1 4) (card_of Method.affine_projection_code singular 0))), Refusal 8)
    -- identity bestfit on 4 by 3: 6 by 5 at -1, -1
    ∷ ((
      Window (window_of (image 4 3 48) (card_of Method.affine_projection_code identity 1)),
      Window (Placed.Window 6 5 (negsuc 0) (negsuc 0)),
    )
    -- `Barrel` 0, 0, 0 on 4 by 4 at 0.5, 0.5: itself
    ∷ ((
      Source (barrel_at 0x3fe0_0000_0000_0000 0x3fe0_0000_0000_0000
          (build Method.barrel_code (f64s (0 ∷ 0 ∷ 0 ∷ [])) 4 4).mapping),
      Source (record { u = double 0x3fe0_0000_0000_0000; v = double 0x3fe0_0000_0000_0000; usable = true }),
    )
    -- order 2.5 with 9 pairs: refusal 6
    ∷ ((Refusal (refusal (without_rows (image 1 1 4) (card_of Method.polynomial_code nine_pairs 0))), Refusal 6)
    ∷ [])))))))))))))))

-- both sides of a row are the same
abbrev pub Right : Shown × Shown → Type 0
Right row = row.0 ≡ row.1
