-- `sampler::fast_sixteen::kernel_of` meets its contract: `Catrom`, and the spline for the others.
use Rattle.sampler.specs.Sixteen.{kernel_of}
use Rattle.sampler.proofs.SixteenCode.{kernel_spline}
use Rattle.sampler.proofs.fast_sixteen.kernel_of.Goals as goal

pub returns-in-Catrom : goal.returns-in-Catrom
unfolding kernel_of
returns-in-Catrom c = rw c.in-Catrom.is c.weights_by.ensures

pub returns-in_default : goal.returns-in_default
returns-in_default c = rw (kernel_spline c.args.i c.args.t c.in_default.not-Catrom) c.weights_by-in_default.ensures
