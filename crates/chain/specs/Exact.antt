-- The exact chain: the same list worked in fractions, without rounding after the fit. It is fed the first picture and,
-- for each warp, its answer and all that it is given except picture and band. Specification 11.3. Assumes nothing.
use Rattle.std.specs.Prelude.{ℕ, zero, suc, ◌+◌, ◌*◌, List, [], ◌∷◌, ℤ}
use Rattle.exact.specs.Fraction.{Fraction, frac, value, ◌-F◌}
use Rattle.exact.specs.Sums.{asked_f}
use Rattle.exact.specs.Warp.{exact_sample}
use Rattle.endian.specs.Bytes.{sample_at}
use Rattle.fit.specs.Build.{build}
use Rattle.mappings.specs.declared.mapping.Mapping.{Mapping}
use Rattle.chain.specs.ExactPoint.{exact_point}
use Rattle.picture.specs.Colour as Colour
use Rattle.policies.specs.Named.{named}
use Rattle.picture.specs.declared.colour.Rgba.{Rgba}
use Rattle.policies.specs.declared.named.Tap.{Tap}
use Rattle.policies.specs.declared.named.Tap.TheVariants.{Pixel, Background, Black, White, Gray, Transparent}
use Rattle.distort.specs.Job.{Image, Given, colour_of}
use Rattle.distort.specs.Answer.{Answer}
use Rattle.chain.specs.Warps.{Warp, width_in, height_in, x_in, y_in}

-- width, height, channels, and a fraction for each sample: column, row, channel
pub record ExactImage : Type 0 where
  pub width : ℕ
  pub height : ℕ
  pub channels : ℕ
  pub sample : ℕ → ℕ → ℕ → Fraction

-- the place of a sample in a picture's bytes
abbrev pub place : ℕ → ℕ → ℕ → ℕ → ℕ → ℕ
place width channels i j k = (j * width + i) * channels + k

-- the first picture, by the fractions that its samples' bits name
abbrev pub exactly : Image → ExactImage
exactly p = record {
  width = p.width;
  height = p.height;
  channels = p.channels;
  sample = λ (i j k : ℕ). value (sample_at p.bytes (place p.width p.channels i j k));
}

-- ---- the surroundings
-- a colour's component, as its fraction: red, green, blue, alpha
abbrev pub part : Rgba → ℕ → Fraction
part c zero = value c.r
part c (suc zero) = value c.g
part c (suc (suc zero)) = value c.b
part c (suc (suc (suc n))) = value c.a

-- what a policy named: a pixel of the exact picture, or a colour
abbrev pub tapped : ExactImage → Rgba → ℕ → Tap → Fraction
tapped q background k (Pixel x y) = q.sample x y k
tapped q background k Background = part background k
tapped q background k Black = part (Colour.grey Colour.zero Colour.one) k
tapped q background k White = part (Colour.grey Colour.one Colour.one) k
tapped q background k Gray = part (Colour.grey Colour.half Colour.one) k
tapped q background k Transparent = part (Colour.grey Colour.zero Colour.zero) k

-- channel k over the whole plane: a tap inside is the picture's pixel, and outside the policy names one
unfoldable pub plane : ExactImage → Given → ℕ → ℤ → ℤ → Fraction
plane q g k x y = tapped q (colour_of g.background) k (named g.policy q.width q.height x y)

-- ---- one warp
-- the fit's own coefficients
abbrev pub mapping_of : ExactImage → Given → Mapping
mapping_of q g = (build g.method g.arguments q.width q.height).mapping

-- u and v of the pixel at column i and row j, with the answer's offset
unfoldable pub source : ExactImage → Given → Answer → ℕ → ℕ → Fraction × Fraction
source q g a i j = exact_point (mapping_of q g).kind (mapping_of q g).order (mapping_of q g).coef (asked_f i (x_in a))
    (asked_f j (y_in a))

-- cell, four taps and weights by `Bilinear`'s own steps: half a pixel back, floor and fraction, the sum of the taps
-- times their weights
unfoldable pub warped_sample : ExactImage → Given → Answer → ℕ → ℕ → ℕ → Fraction
unfolding plane source
warped_sample q g a i j k = exact_sample (plane q g k) ((source q g a i j).0 -F frac 1 2) ((source q g a i j).1 -F frac 1 2)

abbrev pub exact_warp : ExactImage → Given → Answer → ExactImage
exact_warp q g a = record { width = width_in a; height = height_in a; channels = q.channels; sample = warped_sample q g a }

unfoldable pub exact_chain : ExactImage → List Warp → ExactImage
exact_chain q [] = q
exact_chain q (w ∷ ws) = exact_chain (exact_warp q w.given w.answered) ws
