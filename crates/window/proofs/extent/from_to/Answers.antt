-- `window::extent::from_to` meets its contract. Where the end is not above the start the count is 1; else it is their
-- difference, which is positive and small enough to be cast. Assumes nothing.
use Rattle.std.proofs.Common.{◌≡◌, suc, ◌^◌, ◌<◌, ◌≤◌, Bool, true, false, T, ℤ, pos, negsuc, ◌-ℤ◌, nat_abs, ◌≤ℤ◌, sym, ap, ◌∙◌, subst, arith, leb→le, w64, Fits, SFits, to_z, of_z}
use borrow.Author.Tests.{not-true, not-false}
use lib.Signed.{le_z, non_neg}
use mir.ValLaws.{to_z-of_z}
use Rattle.exact.proofs.Floor.{plusℤ}
use Rattle.window.specs.Extent.{good_offset, held, at_least_one, from_to}
use Rattle.window.proofs.DifferenceLaws.{Count, one_positive, diff_low, diff_high}
use Rattle.window.proofs.ExtentLaws.{offset_le, reach_off}
use Rattle.window.proofs.extent.from_to.Goals as goal

abbrev read : ℤ → ℤ
read z = to_z w64 (of_z w64 z)

plus-most : (y : ℤ) → y ≤ℤ pos 2147483648 → plusℤ y ≤ 2147483648
plus-most (pos n) h = leb→le n 2147483648 h.le
plus-most (negsuc n) h = omega arith

module _ (z y : ℤ) (fz : SFits w64 z) (fy : SFits w64 y) where
  tested : le_z (read y) (read z) ≡ le_z y z
  tested = (λ i. le_z (to_z-of_z w64 y fy i) (to_z-of_z w64 z fz i))

  taken-off : read y -ℤ read z ≡ y -ℤ z
  taken-off = (λ i. to_z-of_z w64 y fy i -ℤ to_z-of_z w64 z fz i)

  -- the end is not above the start
  single : (r : _) → r ≡ held (read z) 1 → le_z (read y) (read z) ≡ true → r ≡ from_to z y
  unfolding from_to
  single r e h = e ∙ ap (λ (x : ℤ). held x 1) (to_z-of_z w64 z fz) ∙ ap (held z) (sym (diff_low y z (sym tested ∙ h)))

  -- it is above
  module _ (p : y ≤ℤ pos 2147483648) (g : good_offset z ≡ true) (h : le_z (read y) (read z) ≡ false) where
    count : Count (y -ℤ z) (plusℤ y) (nat_abs z)
    count = diff_high y z (sym tested ∙ h)

    small : suc count.d < 2 ^ 63
    small = let l = offset_le z g in let m = plus-most y p in omega (arith, count.most)

    wide : suc count.d < 2 ^ 64
    wide = let l = small in omega arith

    is : read y -ℤ read z ≡ pos (suc count.d)
    is = taken-off ∙ count.is

    fits : SFits w64 (read y -ℤ read z)
    fits = subst (SFits w64) (sym is) (record { sfits = small })

    back : read (read y -ℤ read z) ≡ pos (suc count.d)
    back = to_z-of_z w64 (read y -ℤ read z) fits ∙ is

    cast : T (non_neg (read (read y -ℤ read z))) × Fits w64 (nat_abs (read (read y -ℤ read z)))
    cast = subst (λ (x : ℤ). T (non_neg x) × Fits w64 (nat_abs x)) (sym back) (tt, record { fits = wide })

    several : (r : _) → r ≡ held (read z) (nat_abs (read (read y -ℤ read z))) → r ≡ from_to z y
    unfolding from_to
    several r e =
        e ∙ (λ i. held (to_z-of_z w64 z fz i) (nat_abs (back i)))
        ∙ ap (held z) (sym (ap at_least_one count.is ∙ one_positive count.d))

good : (g : Bool) (z : ℤ) → SFits w64 z → g ≡ good_offset (read z) → g ≡ good_offset z
good g z f e = e ∙ ap good_offset (to_z-of_z w64 z f)

pub returns-then-not-good_offset : goal.returns-then-not-good_offset
returns-then-not-good_offset c =
    let s = c in
    sym (reach_off s.args.from s.args.to
    (sym (good c.good_offset.result s.args.from s.ranges.from c.good_offset.ensures)
    ∙ not-true c.good_offset.result c.if-not-good_offset.true-raw))

pub returns-then-to-from : goal.returns-then-to-from
returns-then-to-from c =
    let s = c in
    single s.args.from s.args.to s.ranges.from s.ranges.to c.held.result c.held.ensures
    c.if-to-from.true

offset : (c : goal.Else-to-from) → good_offset c.args.from ≡ true
offset c =
    let s = c in
    let g = c.good_offset in
    sym (good g.result s.args.from s.ranges.from g.ensures) ∙ not-false g.result c.if-not-good_offset.false-raw

pub overflow_sub-to : goal.overflow_sub-to
overflow_sub-to c =
    let s = c in
    fits s.args.from s.args.to s.ranges.from s.ranges.to s.requires (offset c) c.if-to-from.false

pub overflow_cast-to : goal.overflow_cast-to
overflow_cast-to c =
    let s = c in
    cast s.args.from s.args.to s.ranges.from s.ranges.to s.requires (offset c) c.if-to-from.false

pub returns : goal.returns
returns c =
    let s = c in
    several s.args.from s.args.to s.ranges.from s.ranges.to s.requires (offset c.before)
    c.if-to-from.false c.held-2.result c.held-2.ensures
