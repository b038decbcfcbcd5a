-- The pixel at an integer index, virtual outside: the Rust's `Sampler::at`. Specification 8. Assumes nothing.
use Rattle.std.specs.Prelude.{ℕ, List, ℤ}
use Rattle.picture.specs.Colour.{zero, half, one, grey}
use Rattle.policies.specs.Named.{named}
use Rattle.picture.specs.Pixel.{Inside, pixel_at}
use Rattle.picture.specs.declared.colour.Rgba.{Rgba}
use Rattle.policies.specs.declared.named.Tap.{Tap}
use Rattle.policies.specs.declared.named.Tap.TheVariants.{Pixel, Background, Black, White, Gray, Transparent}

-- what was named, as a colour
abbrev pub tap_samples : List ℕ → ℕ → ℕ → Rgba → Tap → Rgba
tap_samples bytes width channels background (Pixel x y) = pixel_at bytes width channels x y
tap_samples bytes width channels background Background = background
tap_samples bytes width channels background Black = grey zero one
tap_samples bytes width channels background White = grey one one
tap_samples bytes width channels background Gray = grey half one
tap_samples bytes width channels background Transparent = grey zero zero

-- what reading those samples asks: a pixel that was named lies inside
abbrev pub Held : List ℕ → ℕ → ℕ → Tap → Type 0
Held bytes width channels (Pixel x y) = Inside bytes width channels x y
Held bytes width channels Background = Unit
Held bytes width channels Black = Unit
Held bytes width channels White = Unit
Held bytes width channels Gray = Unit
Held bytes width channels Transparent = Unit

unfoldable pub at : List ℕ → ℕ → ℕ → ℕ → ℕ → Rgba → ℤ → ℤ → Rgba
at bytes width height channels policy background x y =
    tap_samples bytes width channels background (named policy width height x y)
