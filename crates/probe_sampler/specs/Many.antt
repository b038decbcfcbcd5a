-- The sampler at many points in one call: 0 with a colour for each point in the bytes lent, or 1 outside the domain,
-- where nothing is written. Assumes nothing.
use Rattle.std.specs.Prelude.{ℕ, ◌+◌, ◌*◌, ◌/◌, not, cond, ◌||◌, List, eqb, length, Float}
use Rattle.exact.specs.Loop.{up_to}
use Rattle.endian.specs.Bytes.{u64_at}
use Rattle.probe_sampler.specs.Sampled.{far_coordinate, unfit_sample, store_colour, colours, shape_of}
use Rattle.picture.specs.declared.colour.Rgba.{Rgba}

-- the bits of the coordinates of the point numbered k
abbrev pub x_bits : List ℕ → ℕ → ℕ
x_bits points k = u64_at points (16 * k)

abbrev pub y_bits : List ℕ → ℕ → ℕ
y_bits points k = u64_at points (16 * k + 8)

-- its colour, as the pixel numbered k; a point beyond the domain leaves the bytes as they are
unfoldable pub store_sampled : (Float → Float → Rgba) → List ℕ → ℕ → List ℕ → List ℕ
store_sampled colour points k out =
    cond (far_coordinate (x_bits points k) || far_coordinate (y_bits points k)) out
    (store_colour colour (x_bits points k) (y_bits points k) out k)

-- all points that are whole
abbrev pub store_samples : (Float → Float → Rgba) → List ℕ → List ℕ → List ℕ
store_samples colour points out = up_to (store_sampled colour points) 0 (length points / 16) out

-- the picture, the codes and the background are tested with a point that is in the domain
unfoldable pub probe_samples : List ℕ → ℕ → ℕ → ℕ → ℕ → ℕ → List ℕ → List ℕ → List ℕ → ℕ × List ℕ
probe_samples bytes width height channels policy code background points out =
    cond
    (not (eqb (length points) (length out))
    || unfit_sample bytes (shape_of width height channels) policy code background 0 0)
    (1, out)
    (0, store_samples (colours bytes (shape_of width height channels) policy code background) points out)
