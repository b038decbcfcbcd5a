-- Small pictures and jobs, in bytes, of which the examples are made. Assumes nothing.
use mathlib.Core.Path.{◌≡◌, refl}
use mathlib.Core.Logic.{inl}
use mathlib.Core.List.{List, [], ◌∷◌, ◌++◌}
use Prim.Native.Nat.{ℕ}
use native.Mathlib.Omega.{arith}
use lib.IntN.{ℤ, pos}
use lib.Ieee as Ieee
use lib.Ieee.{Float}
use Rattle.endian.specs.Bytes as Bytes
use Rattle.picture.specs.Pixel as Pixel
use Rattle.distort.specs.Job.{Image, Given, Call, colour_of}
use Rattle.distort.specs.Answer.{Accepted}
use Rattle.chain.specs.Demand.{First, OpaqueColour}
use Rattle.chain.specs.Warps.{Warp, State}
use Rattle.chain.proofs.Closed.{below, below_every, le_f, unitly, unit}

-- ---- numbers in bytes: f32 0, 1/4, 3/8, 1/2 and 1, then f64 0, 1/4, 1/2, 1 and 2
abbrev pub s0 : List ℕ
s0 = 0 ∷ 0 ∷ 0 ∷ 0 ∷ []

abbrev pub s1/4 : List ℕ
s1/4 = 0 ∷ 0 ∷ 0x80 ∷ 0x3e ∷ []

abbrev pub s3/8 : List ℕ
s3/8 = 0 ∷ 0 ∷ 0xc0 ∷ 0x3e ∷ []

abbrev pub s1/2 : List ℕ
s1/2 = 0 ∷ 0 ∷ 0 ∷ 0x3f ∷ []

abbrev pub s1 : List ℕ
s1 = 0 ∷ 0 ∷ 0x80 ∷ 0x3f ∷ []

abbrev pub d0 : List ℕ
d0 = s0 ++ s0

abbrev pub d1/4 : List ℕ
d1/4 = s0 ++ (0 ∷ 0 ∷ 0xd0 ∷ 0x3f ∷ [])

abbrev pub d1/2 : List ℕ
d1/2 = s0 ++ (0 ∷ 0 ∷ 0xe0 ∷ 0x3f ∷ [])

abbrev pub d1 : List ℕ
d1 = s0 ++ (0 ∷ 0 ∷ 0xf0 ∷ 0x3f ∷ [])

abbrev pub d2 : List ℕ
d2 = s0 ++ (0 ∷ 0 ∷ 0 ∷ 0x40 ∷ [])

-- the same f64 as a fit gives them, and -0 and 4
abbrev f64 : ℕ → Float
f64 bits = Ieee.of_bits Ieee.binary64 bits

abbrev pub f0 : Float
f0 = f64 0

abbrev pub f_0 : Float
f_0 = f64 0x8000_0000_0000_0000

abbrev pub f1/2 : Float
f1/2 = f64 0x3fe0_0000_0000_0000

abbrev pub f1 : Float
f1 = f64 0x3ff0_0000_0000_0000

abbrev pub f2 : Float
f2 = f64 0x4000_0000_0000_0000

abbrev pub f4 : Float
f4 = f64 0x4010_0000_0000_0000

-- ---- jobs
-- on black, in the picture's own window, in bestfit's, or in that of a card at (0, y)
abbrev pub by : ℕ → List ℕ → ℕ → ℕ → ℕ → ℤ → Given
by method arguments policy bestfit viewport y = record {
  method = method;
  arguments = arguments;
  policy = policy;
  interpolation = 5;
  background = s0 ++ s0 ++ s0 ++ s1;
  matte = s0 ++ s0 ++ s0 ++ s1;
  bestfit = bestfit;
  viewport = viewport;
  view_width = 1;
  view_height = 2;
  view_x = pos 0;
  view_y = y;
}

pub black : OpaqueColour (colour_of (s0 ++ s0 ++ s0 ++ s1))
unfolding Ieee.of_bits Bytes.number_at unitly le_f Pixel.pixel_at Pixel.widened
black = record { red = unit tt; green = unit tt; blue = unit tt; alpha = refl }

-- ---- pictures: cards of one column and two rows
abbrev pub card : ℕ → List ℕ → Image
card channels bytes = record { bytes = bytes; width = 1; height = 2; channels = channels }

-- the upper row of the first, its lower row, and their mean
abbrev pub high : List ℕ
high = s0 ++ s1/2 ++ s1

abbrev pub deep : List ℕ
deep = s1 ++ s1/4 ++ s0

abbrev pub low : List ℕ
low = s1/2 ++ s3/8 ++ s1/2

abbrev pub p0 : Image
p0 = card 3 (high ++ deep)

pub first : First p0
unfolding Ieee.of_bits Bytes.number_at below unitly le_f
first = record {
  colours = inl refl;
  whole = refl;
  samples = λ (k : ℕ) h. unit (below_every (λ (n : ℕ). unitly (Bytes.sample_at p0.bytes n)) 6 tt k h);
  alphas = λ e. absurd (three e);
}
  where
    three : ◌≡◌ {A = ℕ} 3 4 → ⊥
    three e = omega arith

-- ---- a warp into a card, at (0, y), and the state after a list that leaves no call waiting
abbrev pub made : Given → Image → ℤ → Warp
made g p y = record { given = g; answered = Accepted 1 2 (pos 0) y p.channels 0; lent = p; chain = p }

abbrev pub end : Image → List Warp → State
end p warps = record { image = p; waiting = []; warps = warps }

-- ---- calls
abbrev pub asks : Image → Given → ℕ → ℕ → List ℕ → Call
asks p g first rows band = record { image = p; given = g; first = first; rows = rows; band = band }

-- a black row, as a band holds it before a call
abbrev pub row : List ℕ
row = s0 ++ s0 ++ s0
