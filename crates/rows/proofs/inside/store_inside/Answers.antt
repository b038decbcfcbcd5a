-- `rows::inside::store_inside` meets its contract: each loop is called for its interpolations.
use Rattle.rows.proofs.inside.store_inside.Goals as goal

pub returns-in-Bilinear : goal.returns-in-Bilinear
returns-in-Bilinear c = rw c.in-Bilinear.is c.store_bilinear.ensures

pub returns-in-Integer : goal.returns-in-Integer
returns-in-Integer c = rw c.in-Integer.is c.store_single.ensures

pub returns-in-Nearest : goal.returns-in-Nearest
returns-in-Nearest c = rw c.in-Nearest.is c.store_single-in-Nearest.ensures
