-- `window::extent::counts` meets its contract: only a NaN and the infinities are not above minus infinity or above
-- every number. Assumes nothing.
use Rattle.std.proofs.Common.{◌≡◌, true, false, ◌&&◌, refl}
use lib.Ieee.{Float, nan, inf, fin, binary64, lt, eq, le, neg, div, of_bits}
use lib.Ieee.Scale.{finite}
use Rattle.number.specs.Floor.{domain_end}
use Rattle.window.proofs.extent.counts.Goals as goal

tests : (x : Float) → (lt (div binary64 (neg (of_bits binary64 0x3ff0_0000_0000_0000)) (of_bits binary64 0)) x
    && le x domain_end) ≡ (finite x && le x domain_end)
unfolding lt eq le neg div of_bits
tests nan = refl
tests (inf true) = refl
tests (inf false) = refl
tests (fin s m e) = refl

pub returns : goal.returns
returns c = tests c.args.x
