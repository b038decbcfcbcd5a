-- `window::extent::good_offset` meets its contract: the two tests are one of the magnitude. Assumes nothing.
use Rattle.std.proofs.Common.{◌&&◌, ℤ, pos, negsuc, ap, ◌∙◌, w64}
use lib.Signed.{le_z}
use mir.ValLaws.{to_z-of_z}
use Rattle.window.proofs.ExtentLaws.{offset_tests}
use Rattle.window.proofs.extent.good_offset.Goals as goal

pub returns : goal.returns
returns c = ap (λ (z : ℤ). le_z (negsuc 1048575) z && le_z z (pos 1048576)) (to_z-of_z w64 c.args.from c.ranges.from)
    ∙ offset_tests c.args.from
