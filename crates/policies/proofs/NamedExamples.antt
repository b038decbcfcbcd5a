-- Worked examples of what is named, at the policies' codes: each is computed. Assumes nothing.
use mathlib.Core.Path.{◌≡◌, refl}
use lib.IntN.{pos, negsuc}
use Rattle.policies.specs.Index.{in_range, tile, mirror, parity}
use Rattle.policies.specs.Named.{policy, named}
use Rattle.policies.specs.declared.named.Tap.TheVariants.{Pixel, Background}

-- ---- `Mirror`, code 7, of width 4. -1 is negsuc 0

pub mirror_1 : named 7 4 1 (negsuc 0) (pos 0) ≡ Pixel 0 0
unfolding named policy in_range mirror tile
mirror_1 = refl

pub mirror_5 : named 7 4 1 (negsuc 4) (pos 0) ≡ Pixel 3 0
unfolding named policy in_range mirror tile
mirror_5 = refl

pub mirror4 : named 7 4 1 (pos 4) (pos 0) ≡ Pixel 3 0
unfolding named policy in_range mirror tile
mirror4 = refl

pub mirror8 : named 7 4 1 (pos 8) (pos 0) ≡ Pixel 0 0
unfolding named policy in_range mirror tile
mirror8 = refl

-- ---- `Tile`, code 6, of width 4

pub tile_1 : named 6 4 1 (negsuc 0) (pos 0) ≡ Pixel 3 0
unfolding named policy in_range tile
tile_1 = refl

pub tile4 : named 6 4 1 (pos 4) (pos 0) ≡ Pixel 0 0
unfolding named policy in_range tile
tile4 = refl

-- ---- `CheckerTile`, code 12, of 2 by 2

pub checker2_0 : named 12 2 2 (pos 2) (pos 0) ≡ Background
unfolding named policy in_range tile parity
checker2_0 = refl

pub checker_1_0 : named 12 2 2 (negsuc 0) (pos 0) ≡ Background
unfolding named policy in_range tile parity
checker_1_0 = refl

pub checker2_2 : named 12 2 2 (pos 2) (pos 2) ≡ Pixel 0 0
unfolding named policy in_range tile parity
checker2_2 = refl
