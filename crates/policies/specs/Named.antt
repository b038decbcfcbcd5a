-- Which pixel of the picture, or which colour, a policy names at an index: the Rust's `Sampler::at` without the
-- samples. An index inside names its own pixel under every policy. Specification 8. Assumes nothing.
use Rattle.std.specs.Prelude.{
  ◌≡◌,
  ℕ,
  ◌+◌,
  ◌/◌,
  ◌%◌,
  ◌^◌,
  ◌≤◌,
  ◌<◌,
  cond,
  ◌&&◌,
  List,
  [],
  ◌∷◌,
  eqb,
  get_or,
  ℤ,
  Result,
  MatchResult,
}
use Rattle.std.specs.Int.Signed.{mag}
use Rattle.exact.specs.Limits.{largest_side}
use Rattle.endian.specs.Bytes.{twos_complement}
use Rattle.policies.specs.Index.{in_range, clamped, tile, mirror, parity}
use Rattle.policies.specs.Random.{mix}
use Rattle.policies.specs.declared.policy.Policy.{Policy}
use Rattle.policies.specs.declared.policy.Policy.TheVariants.{
  Edge,
  Background,
  Black,
  White,
  Gray,
  Transparent,
  Tile,
  Mirror,
  HorizontalTile,
  VerticalTile,
  HorizontalTileEdge,
  VerticalTileEdge,
  CheckerTile,
  Random,
}
use Rattle.policies.specs.declared.named.Tap.{Tap}
use Rattle.refusals.specs.declared.Refusal.{Refusal}
use Rattle.refusals.specs.declared.Refusal.TheVariants.{Code}

-- the sizes that a call is accepted with
pub record Sizes (width height : ℕ) : Type 0 where
  pub wide : 0 < width
  pub width_most : width ≤ largest_side
  pub high : 0 < height
  pub height_most : height ≤ largest_side

-- codes count from 0 in this order. No call is accepted with another code; one would count as the last.
abbrev pub policies : List Policy
policies =
    Edge ∷ Background ∷ Black ∷ White ∷ Gray ∷ Transparent ∷ Tile ∷ Mirror ∷ HorizontalTile ∷ VerticalTile
    ∷ HorizontalTileEdge ∷ VerticalTileEdge ∷ CheckerTile ∷ Random ∷ []

unfoldable pub policy : ℕ → Policy
policy code = get_or policies code Random

-- the code of each
abbrev pub code_of : Policy → ℕ
code_of Edge = 0
code_of Background = 1
code_of Black = 2
code_of White = 3
code_of Gray = 4
code_of Transparent = 5
code_of Tile = 6
code_of Mirror = 7
code_of HorizontalTile = 8
code_of VerticalTile = 9
code_of HorizontalTileEdge = 10
code_of VerticalTileEdge = 11
code_of CheckerTile = 12
code_of Random = 13

-- what a code is read as: the policy that has it, or the refusal of a code where none has
abbrev pub Decodes : ℕ → Result Policy Refusal → Type 0
Decodes code r = MatchResult r (λ (p : Policy). code_of p ≡ code) (λ (e : Refusal). (e ≡ Code) × (13 < code))

-- ---- the codes that definitions ask for by name
abbrev pub edge_code : ℕ
edge_code = 0

abbrev pub transparent_code : ℕ
transparent_code = 5

abbrev pub tile_code : ℕ
tile_code = 6

abbrev pub mirror_code : ℕ
mirror_code = 7

abbrev pub checker_tile_code : ℕ
checker_tile_code = 12

abbrev pub random_code : ℕ
random_code = 13

-- the pixel of a mix: its low part counts columns, its upper half rows
unfoldable pub picked : ℕ → ℕ → ℕ → Tap
picked w h z = Tap.Pixel (z % w) (z / 2 ^ 32 % h)

abbrev pub outside : Policy → ℕ → ℕ → ℤ → ℤ → Tap
outside Edge w h x y = Tap.Pixel (clamped x w) (clamped y h)
outside Background w h x y = Tap.Background
outside Black w h x y = Tap.Black
outside White w h x y = Tap.White
outside Gray w h x y = Tap.Gray
outside Transparent w h x y = Tap.Transparent
outside Tile w h x y = Tap.Pixel (tile x w) (tile y h)
outside Mirror w h x y = Tap.Pixel (mirror x w) (mirror y h)
outside HorizontalTile w h x y = cond (in_range y h) (Tap.Pixel (tile x w) (mag y)) Tap.Background
outside VerticalTile w h x y = cond (in_range x w) (Tap.Pixel (mag x) (tile y h)) Tap.Background
outside HorizontalTileEdge w h x y = Tap.Pixel (tile x w) (clamped y h)
outside VerticalTileEdge w h x y = Tap.Pixel (clamped x w) (tile y h)
outside CheckerTile w h x y =
    cond (eqb ((parity x w + parity y h) % 2) 0) (Tap.Pixel (tile x w) (tile y h)) Tap.Background
outside Random w h x y = picked w h (mix (twos_complement x) (twos_complement y))

unfoldable pub named : ℕ → ℕ → ℕ → ℤ → ℤ → Tap
named code w h x y = cond (in_range x w && in_range y h) (Tap.Pixel (mag x) (mag y)) (outside (policy code) w h x y)

-- a pixel that was named lies inside the picture
abbrev pub Lies : ℕ → ℕ → Tap → Type 0
Lies w h (Tap.Pixel x y) = (x < w) × (y < h)
Lies w h Tap.Background = Unit
Lies w h Tap.Black = Unit
Lies w h Tap.White = Unit
Lies w h Tap.Gray = Unit
Lies w h Tap.Transparent = Unit
