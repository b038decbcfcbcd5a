-- Whatever is named as a pixel lies inside the picture, under every policy and at every index, and an index inside
-- names its own pixel. By cases on the policy; each side of the picture by the laws of an index. Assumes nothing.
use mathlib.Core.Path.{◌≡◌, refl}
use mathlib.Core.Bool.{Bool, true, false, cond, ◌&&◌}
use Prim.Native.Nat.{ℕ, ◌+◌, ◌/◌, ◌%◌, ◌^◌, ◌<◌}
use native.Mathlib.Nat.{mod-lt}
use lib.Dec.{eqb}
use lib.IntN.{ℤ, pos}
use lib.Signed.{mag}
use borrow.Author.Tests.{lt-ltb}
use Rattle.endian.specs.Bytes.{twos_complement}
use Rattle.policies.specs.Index.{in_range, tile, parity}
use Rattle.policies.specs.Random.{mix}
use Rattle.policies.specs.Named.{policy, picked, outside, named, Lies}
use Rattle.policies.specs.declared.policy.Policy.{Policy}
use Rattle.policies.specs.declared.policy.Policy.TheVariants.{
  Edge,
  Background,
  Black,
  White,
  Gray,
  Transparent,
  Tile,
  Mirror,
  HorizontalTile,
  VerticalTile,
  HorizontalTileEdge,
  VerticalTileEdge,
  CheckerTile,
  Random,
}
use Rattle.policies.specs.declared.named.Tap.{Tap}
use Rattle.policies.proofs.IndexLaws.{within_lt, clamped_lt, tile_lt, mirror_lt}

-- of two places that lie inside, either does
either : (w h : ℕ) (t : Bool) (p q : Tap) → (t ≡ true → Lies w h p) → Lies w h q → Lies w h (cond t p q)
either w h true p q f g = f refl
either w h false p q f g = g

module _ (w h : ℕ) (w-pos : 0 < w) (h-pos : 0 < h) where
  pub outside_lies : (p : Policy) (x y : ℤ) → Lies w h (outside p w h x y)
  unfolding picked
  outside_lies Edge x y = (clamped_lt x w w-pos, clamped_lt y h h-pos)
  outside_lies Background x y = tt
  outside_lies Black x y = tt
  outside_lies White x y = tt
  outside_lies Gray x y = tt
  outside_lies Transparent x y = tt
  outside_lies Tile x y = (tile_lt x w w-pos, tile_lt y h h-pos)
  outside_lies Mirror x y = (mirror_lt x w w-pos, mirror_lt y h h-pos)
  outside_lies HorizontalTile x y =
      either w h (in_range y h) (Tap.Pixel (tile x w) (mag y)) Tap.Background (λ e. (tile_lt x w w-pos, within_lt y h e))
      tt
  outside_lies VerticalTile x y =
      either w h (in_range x w) (Tap.Pixel (mag x) (tile y h)) Tap.Background (λ e. (within_lt x w e, tile_lt y h h-pos))
      tt
  outside_lies HorizontalTileEdge x y = (tile_lt x w w-pos, clamped_lt y h h-pos)
  outside_lies VerticalTileEdge x y = (clamped_lt x w w-pos, tile_lt y h h-pos)
  outside_lies CheckerTile x y =
      either w h (eqb ((parity x w + parity y h) % 2) 0) (Tap.Pixel (tile x w) (tile y h)) Tap.Background
      (λ e. (tile_lt x w w-pos, tile_lt y h h-pos)) tt
  outside_lies Random x y = (
    mod-lt (mix (twos_complement x) (twos_complement y)) w-pos,
    mod-lt (mix (twos_complement x) (twos_complement y) / 2 ^ 32) h-pos,
  )

  pub named_lies : (code : ℕ) (x y : ℤ) → Lies w h (named code w h x y)
  unfolding named
  named_lies code x y = go (in_range x w) refl (in_range y h) refl
    where
      go : (s : Bool) → in_range x w ≡ s → (t : Bool) → in_range y h ≡ t
          → Lies w h (cond (s && t) (Tap.Pixel (mag x) (mag y)) (outside (policy code) w h x y))
      go true d true e = (within_lt x w d, within_lt y h e)
      go true d false e = outside_lies (policy code) x y
      go false d true e = outside_lies (policy code) x y
      go false d false e = outside_lies (policy code) x y

-- an index inside names its own pixel, under every policy
pub named_inside : (code w h x y : ℕ) → x < w → y < h → named code w h (pos x) (pos y) ≡ Tap.Pixel x y
unfolding named in_range
named_inside code w h x y hx hy = rw (lt-ltb x w hx, lt-ltb y h hy)
