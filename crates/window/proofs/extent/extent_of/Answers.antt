-- `window::extent::extent_of` meets its contract: the whole numbers that floor and ceil count give the side that the
-- edges' own floor and ceiling give. Assumes nothing.
use Rattle.std.proofs.Common.{◌≡◌, Bool, true, false, cond, ◌&&◌, T, ℤ, pos, ◌≤ℤ◌, sym, refl, ap, ◌∙◌, subst, w64, to_z, of_z}
use borrow.Author.Tests.{not-true, not-false}
use lib.Ieee.{Float, binary64, le, fits}
use lib.Ieee.Scale.{finite}
use mir.ValLaws.{to_z-of_z}
use Rattle.exact.specs.Double.{◌⊕◌, ◌⊖◌}
use Rattle.number.specs.Floor.{floorℤ, domain_end, floor_i64}
use Rattle.window.specs.declared.extent.Extent.{Extent}
use Rattle.std.specs.Prelude.{Option, None}
use Rattle.window.specs.Ceil.{ceilℤ, ceil_i64}
use Rattle.window.specs.Extent.{half, from_to, extent_of}
use Rattle.window.proofs.HalfLaws.{less_half, more_half}
use Rattle.window.proofs.CeilLaws.{floor_fits, ceil_fits, ceil_most}
use Rattle.window.proofs.EdgeLaws.{low_edge, high_refused, high_edge}
use Rattle.window.proofs.extent.extent_of.Goals as goal

-- both tests of the definition, one after the other
both : (a b : Bool) (s : Option Extent) → cond a (cond b s None) None ≡ cond (a && b) s None
both true b s = refl
both false b s = refl

either : (a : Bool) → cond {A = Option Extent} a None None ≡ None
either true = refl
either false = refl

module _ (low high : Float) (l : T (fits binary64 low)) (g : T (fits binary64 high)) where
  abbrev bottom : Float
  bottom = low ⊖ half

  abbrev top : Float
  top = high ⊕ half

  -- half a pixel changes no test
  tested : (s : Option Extent) → cond (finite bottom) (cond (finite top) s None) None ≡ cond (finite low && finite high) s None
  tested s = both (finite bottom) (finite top) s ∙ (λ i. cond (less_half low l i && more_half high g i) s None)

  refused : (finite top && le top domain_end) ≡ false → None ≡ extent_of low high
  unfolding extent_of
  refused h =
      sym (either (finite bottom))
      ∙ sym (ap (λ (s : Option Extent). cond (finite bottom) s None) (high_refused top (floorℤ bottom) h))
      ∙ tested (from_to (floorℤ bottom) (ceilℤ top))

  -- what the code hands to `from_to`, read back
  module _ (from to : ℤ) (f : from ≡ floor_i64 bottom) (t : to ≡ ceil_i64 top) where
    read-from : to_z w64 (of_z w64 from) ≡ floor_i64 bottom
    read-from = ap (λ (z : ℤ). to_z w64 (of_z w64 z)) f ∙ to_z-of_z w64 (floor_i64 bottom) (floor_fits bottom)

    read-to : to_z w64 (of_z w64 to) ≡ ceil_i64 top
    read-to = ap (λ (z : ℤ). to_z w64 (of_z w64 z)) t ∙ to_z-of_z w64 (ceil_i64 top) (ceil_fits top)

    most : to_z w64 (of_z w64 to) ≤ℤ pos 2147483648
    most = subst (λ (z : ℤ). z ≤ℤ pos 2147483648) (sym read-to) (ceil_most top)

    answer : (r : Option Extent) → r ≡ from_to (to_z w64 (of_z w64 from)) (to_z w64 (of_z w64 to))
        → (finite top && le top domain_end) ≡ true → r ≡ extent_of low high
    unfolding extent_of
    answer r e h =
        e ∙ (λ i. from_to (read-from i) (read-to i))
        ∙ low_edge bottom (ceil_i64 top)
        ∙ ap (λ (s : Option Extent). cond (finite bottom) s None) (high_edge top (floorℤ bottom) h)
        ∙ tested (from_to (floorℤ bottom) (ceilℤ top))

fits_at : (x : Float) → fits binary64 x ≡ true → T (fits binary64 x)
fits_at x e = subst T (sym e) tt

pub returns-then-not-counts : goal.returns-then-not-counts
returns-then-not-counts c =
    refused c.args.low c.args.high (fits_at _ c.well_formed.0.1) (fits_at _ c.well_formed.1.0.1) (sym c.counts.ensures
    ∙ not-true c.counts.result c.if-not-counts.true-raw)

pub from_to-requires : goal.from_to-requires
from_to-requires c =
    most c.args.low c.args.high (fits_at _ c.well_formed.0.1) (fits_at _ c.well_formed.1.0.1) c.floor_i64.result
    c.ceil_i64.result c.floor_i64.ensures c.ceil_i64.ensures

pub returns : goal.returns
returns c =
    answer c.args.low c.args.high (fits_at _ c.well_formed.0.1) (fits_at _ c.well_formed.1.0.1) c.floor_i64.result
    c.ceil_i64.result c.floor_i64.ensures c.ceil_i64.ensures
    c.from_to.result c.from_to.ensures (sym c.counts.ensures
    ∙ not-false c.counts.result c.if-not-counts.false-raw)
