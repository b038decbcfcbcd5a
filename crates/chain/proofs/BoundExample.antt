-- That the bound is not idle: a list of one warp whose red sample is further from the exact one than 4/16,777,216,
-- worked out. So 1/16,777,216 for each warp would be false. The picture is one of 2 by 2 pixels and the warp a shift by
-- less than a pixel, both with f32 numbers. Assumes nothing.
use mathlib.Core.Path.{◌≡◌, refl, subst}
use mathlib.Core.List.{List, [], ◌∷◌, ◌++◌}
use Prim.Native.Nat.{ℕ}
use native.Mathlib.Omega.{arith}
use lib.Dec.{lit<}
use lib.IntN.{pos}
use lib.ListN.{length}
use Rattle.exact.specs.Fraction.{frac, value, ◌<F◌, ◌+F◌, ◌-F◌, ◌*F◌, distance, Within}
use Rattle.exact.specs.Surface.{floor_f, part_f}
use Rattle.exact.proofs.Products.{lt_le_trans}
use Rattle.distort.specs.Job.{Image, Given, Call}
use Rattle.distort.specs.Answer.{Accepted}
use Rattle.chain.specs.ExactPoint.{exact_point}
use Rattle.chain.specs.Demand.{sample_of}
use Rattle.chain.specs.Exact.{exactly, plane, source, warped_sample, exact_chain}
use Rattle.chain.specs.Warps.{accepted, all_rows, step, run, Warp, State, after}
use Rattle.chain.proofs.Opened.{opened}

abbrev black : List ℕ
black = 0 ∷ 0 ∷ 0 ∷ 0 ∷ 0 ∷ 0 ∷ 0 ∷ 0 ∷ []

abbrev d1 : List ℕ
d1 = 0 ∷ 0 ∷ 0 ∷ 0 ∷ 0 ∷ 0 ∷ 0xf0 ∷ 0x3f ∷ []

-- 0.9948594, 0.8627519, 0.9720460 and 0.9949281 in red
abbrev p : Image
p = record {
  bytes =
      (0x1c ∷ 0xaf ∷ 0x7e ∷ 0x3f ∷ black)
      ++ (0x4f ∷ 0xdd ∷ 0x5c ∷ 0x3f ∷ black)
      ++ (0x02 ∷ 0xd8 ∷ 0x78 ∷ 0x3f ∷ black)
      ++ (0x9c ∷ 0xb3 ∷ 0x7e ∷ 0x3f ∷ black);
  width = 2;
  height = 2;
  channels = 3;
}

-- shifted by -0.1258585 and -0.3507647, its pixel at (0, 0)
abbrev g : Given
g = record {
  method = 1;
  arguments = d1 ++ black ++ black ++ d1 ++ (0 ∷ 0 ∷ 0 ∷ 0xc0 ∷ 0x21 ∷ 0x1c ∷ 0xc0 ∷ 0xbf ∷ [])
      ++ (0 ∷ 0 ∷ 0 ∷ 0xa0 ∷ 0xed ∷ 0x72 ∷ 0xd6 ∷ 0xbf ∷ []);
  policy = 0;
  interpolation = 5;
  background = black ++ (0 ∷ 0 ∷ 0 ∷ 0 ∷ 0 ∷ 0 ∷ 0x80 ∷ 0x3f ∷ []);
  matte = black ++ black;
  bestfit = 0;
  viewport = 1;
  view_width = 1;
  view_height = 1;
  view_x = pos 0;
  view_y = pos 0;
}

abbrev calls : List Call
calls = record { image = p; given = g; first = 0; rows = 1; band = 0 ∷ 0 ∷ 0 ∷ 0 ∷ black } ∷ []

-- 0.9770725
abbrev r : Image
r = record { bytes = 0x6c ∷ 0x21 ∷ 0x7a ∷ 0x3f ∷ black; width = 1; height = 1; channels = 3 }

abbrev warps : List Warp
warps = record { given = g; answered = Accepted 1 1 (pos 0) (pos 0) 3 0; lent = p; chain = p } ∷ []

ends : after p calls ≡ record { image = r; waiting = []; warps = warps }
unfolding opened accepted all_rows step run
ends = refl

far : frac 4 16777216 <F distance (value (sample_of r 0 0 0)) ((exact_chain (exactly p) warps).sample 0 0 0)
unfolding opened distance exact_chain warped_sample source plane exact_point floor_f part_f ◌+F◌ ◌*F◌ ◌-F◌
far = record { lt = lit< tt }

-- at n units of 1/16,777,216 for n warps
abbrev Tight : State → Type 0
Tight s = Within (value (sample_of s.image 0 0 0)) ((exact_chain (exactly p) s.warps).sample 0 0 0)
    (frac (length s.warps) 16777216)

pub not_tight : Tight (after p calls) → ⊥
not_tight h = less (lt_le_trans far (subst Tight ends h))
  where
    less : frac 4 16777216 <F frac 1 16777216 → ⊥
    less k = let l = k.lt in omega arith
