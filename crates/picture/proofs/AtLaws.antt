-- At an index inside, the colour is that of the picture's own pixel, under every policy; and what holds of every pixel
-- inside and of the colours that can be named holds at every index. Provides: `at_inside`; `named_held` (its samples
-- are in the bytes); `Solid` (a tap that is not the clear colour), `at_keep`. Assumes nothing.
use mathlib.Core.Path.{◌≡◌}
use mathlib.Core.List.{List}
use Prim.Native.Nat.{ℕ, ◌<◌}
use lib.IntN.{ℤ, pos}
use Rattle.picture.specs.At.{tap_samples, Held, at}
use Rattle.picture.specs.Colour.{zero, half, one, grey}
use Rattle.policies.specs.Named as Named
use Rattle.policies.specs.Named.{named, code_of, Lies}
use Rattle.policies.proofs.NamedCode.{named_code}
use Rattle.picture.specs.Pixel.{Picture, pixel_at}
use Rattle.picture.specs.declared.colour.Rgba.{Rgba}
use Rattle.policies.specs.declared.named.Tap.{Tap}
use Rattle.policies.proofs.NamedLaws.{named_lies, named_inside}

pub at_inside : (bytes : List ℕ) (width height channels policy : ℕ) (background : Rgba) (x y : ℕ) → x < width
    → y < height
    → at bytes width height channels policy background (pos x) (pos y) ≡ pixel_at bytes width channels x y
unfolding at
at_inside bytes width height channels policy background x y hx hy = rw (named_inside policy width height x y hx hy)

-- the code of what a code is read as asks the same policy
pub at_code : (bytes : List ℕ) (width height channels policy : ℕ) (background : Rgba) (x y : ℤ)
    → at bytes width height channels (code_of (Named.policy policy)) background x y
    ≡ at bytes width height channels policy background x y
unfolding at
at_code bytes width height channels policy background x y = rw named_code

-- where what is named lies inside, its samples are in the picture's bytes
held : (bytes : List ℕ) (w h channels : ℕ) → Picture bytes w h channels → (t : Tap) → Lies w h t
    → Held bytes w channels t
held bytes w h channels p (Tap.Pixel x y) l = record { height = h; picture = p; column = l.0; row = l.1 }
held bytes w h channels p Tap.Background l = tt
held bytes w h channels p Tap.Black l = tt
held bytes w h channels p Tap.White l = tt
held bytes w h channels p Tap.Gray l = tt
held bytes w h channels p Tap.Transparent l = tt

pub named_held : (bytes : List ℕ) (w h channels : ℕ) → Picture bytes w h channels → (t : Tap) (code : ℕ) (x y : ℤ)
    → t ≡ named code w h x y → Held bytes w channels t
named_held bytes w h channels p t code x y e =
    rw e (held bytes w h channels p (named code w h x y) (named_lies w h p.sizes.wide p.sizes.high code x y))

-- ---- what every colour that can be named has
abbrev pub Solid : Tap → Type 0
Solid (Tap.Pixel x y) = Unit {0}
Solid Tap.Background = Unit {0}
Solid Tap.Black = Unit {0}
Solid Tap.White = Unit {0}
Solid Tap.Gray = Unit {0}
Solid Tap.Transparent = ⊥

module _ (K : Rgba → Type 0) (bytes : List ℕ) (w h channels : ℕ) (pixels : (x y : ℕ) → x < w → y < h
    → K (pixel_at bytes w channels x y)) (background : Rgba) (B : K background)
    (black : K (grey zero one)) (white : K (grey one one)) (gray : K (grey half one)) where
  samples_keep : (t : Tap) → Lies w h t → ((Solid t → ⊥) → K (grey zero zero))
      → K (tap_samples bytes w channels background t)
  samples_keep (Tap.Pixel x y) l clear = pixels x y l.0 l.1
  samples_keep Tap.Background l clear = B
  samples_keep Tap.Black l clear = black
  samples_keep Tap.White l clear = white
  samples_keep Tap.Gray l clear = gray
  samples_keep Tap.Transparent l clear = clear (λ s. s)

  pub at_keep : Picture bytes w h channels → (code : ℕ) (i j : ℤ)
      → ((Solid (named code w h i j) → ⊥) → K (grey zero zero)) → K (at bytes w h channels code background i j)
  unfolding at
  at_keep p code i j clear =
      samples_keep (named code w h i j) (named_lies w h p.sizes.wide p.sizes.high code i j) clear
