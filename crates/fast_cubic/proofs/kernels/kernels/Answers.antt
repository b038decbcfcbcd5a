-- `fast_cubic::kernels::kernels` meets its contract: the kernel is the code's.
use Rattle.fast_cubic.proofs.KernelLaws.{kernel_catrom, kernel_spline}
use Rattle.fast_cubic.proofs.kernels.kernels.Goals as goal

pub returns-in-Catrom : goal.returns-in-Catrom
returns-in-Catrom c = λ e. rw c.in-Catrom.is (kernel_catrom (c.weigh4.ensures e))

pub returns-in_default : goal.returns-in_default
returns-in_default c =
    λ e. kernel_spline c.args.interpolation c.in_default.not-Catrom (c.weigh4-in_default.ensures e)
