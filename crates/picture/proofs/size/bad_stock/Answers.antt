-- `picture::size::bad_stock` is its definition: the product of fit sizes can be counted.
use mathlib.Core.Path.{refl}
use native.Mathlib.Omega.{arith}
use Rattle.picture.specs.Size.{bad_stock}
use Rattle.picture.proofs.SizeLaws.{counted}
use Rattle.picture.proofs.size.bad_stock.Goals as goal

pub overflow_mul-result : goal.overflow_mul-result
overflow_mul-result c = omega (arith, counted _ _ _ c.requires)

pub overflow_mul-result-2 : goal.overflow_mul-result-2
overflow_mul-result-2 c = omega (arith, counted _ _ _ c.requires)

pub overflow_mul-result-3 : goal.overflow_mul-result-3
overflow_mul-result-3 c = omega (arith, counted _ _ _ c.requires)

pub returns : goal.returns
unfolding bad_stock
returns c = refl
