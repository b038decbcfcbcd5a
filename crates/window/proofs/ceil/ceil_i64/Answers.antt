-- `window::ceil::ceil_i64` meets its contract. The floor of -x is i64::MIN outside the domain and nowhere in it, where
-- it has at most 31 digits, so that its negation fits; and that is the ceiling. Assumes nothing.
use Rattle.std.proofs.Common.{◌≡◌, ◌≤◌, Bool, not, T, ℤ, pos, negsuc, ◌-ℤ◌, neg_ℤ, nat_abs, sym, ap, ◌∙◌, subst, arith, w64, SFits, to_z, of_z}
use lib.IntN.{+ℤ_idl}
use lib.Ieee.{Float, neg}
use mir.ValLaws.{to_z-of_z}
use Rattle.number.specs.Floor.{in_domain, floorℤ, floor_i64}
use Rattle.number.proofs.FloorLaws.{floor_size, floor_integer, floor_integer_out}
use Rattle.window.specs.Ceil.{ceilℤ, ceil_i64}
use Rattle.window.proofs.CeilLaws.{by_test, ceil_floor, domain_neg, ceil_size, small_fits, ceil_in, ceil_out}
use Rattle.window.proofs.ceil.ceil_i64.Goals as goal

-- the bits of i64::MIN are no small number's
no-least : (z : ℤ) → nat_abs z ≤ 2147483648 → of_z w64 z ≡ 9223372036854775808 → ⊥
no-least (pos n) h e = omega arith
no-least (negsuc n) h e = omega arith

module _ (x : Float) (F : ℤ) (e : F ≡ floor_i64 (neg x)) where
  inside : T (in_domain x) → F ≡ floorℤ (neg x)
  inside d = e ∙ floor_integer (neg x) (subst T (sym (domain_neg x)) d)

  outside : T (not (in_domain x)) → F ≡ negsuc 9223372036854775807
  outside d = e ∙ floor_integer_out (neg x) (subst (λ (b : Bool). T (not b)) (sym (domain_neg x)) d)

  least : of_z w64 F ≡ 9223372036854775808 → negsuc 9223372036854775807 ≡ ceil_i64 x
  least h =
      by_test (in_domain x)
      (λ d. absurd (no-least (floorℤ (neg x)) (floor_size (neg x) (subst T (sym (domain_neg x)) d))
      (ap (of_z w64) (sym (inside d)) ∙ h)))
      (λ d. sym (ceil_out x d))

  in_domain_law : (of_z w64 F ≡ 9223372036854775808 → ⊥) → T (in_domain x)
  in_domain_law h = by_test (in_domain x) (λ d. d) (λ d. absurd (h (ap (of_z w64) (outside d))))

  -- the negation is the ceiling
  module _ (h : of_z w64 F ≡ 9223372036854775808 → ⊥) where
    negated : pos 0 -ℤ to_z w64 (of_z w64 F) ≡ ceilℤ x
    negated =
        ap (λ (z : ℤ). pos 0 -ℤ z) (ap (λ (z : ℤ). to_z w64 (of_z w64 z)) (inside (in_domain_law h))
        ∙ to_z-of_z w64 (floorℤ (neg x))
        (record {
          sfits = small_fits (floorℤ (neg x))
              (floor_size (neg x) (subst T (sym (domain_neg x)) (in_domain_law h)));
        }))
        ∙ +ℤ_idl (neg_ℤ (floorℤ (neg x))) ∙ ceil_floor x

    fits : SFits w64 (ceilℤ x)
    fits = record { sfits = small_fits (ceilℤ x) (ceil_size x (in_domain_law h)) }

    answer : to_z w64 (of_z w64 (pos 0 -ℤ to_z w64 (of_z w64 F))) ≡ ceil_i64 x
    answer = ap (λ (z : ℤ). to_z w64 (of_z w64 z)) negated ∙ to_z-of_z w64 (ceilℤ x) fits ∙ sym (ceil_in x (in_domain_law h))

pub returns-then-below : goal.returns-then-below
returns-then-below c = least c.args.x c.floor_i64-below.result c.floor_i64-below.ensures
    c.if-below.true

pub overflow_sub-result : goal.overflow_sub-result
overflow_sub-result c =
    let f = c.floor_i64-below in
    subst (SFits w64) (sym (negated c.args.x f.result f.ensures c.if-below.false))
    (fits c.args.x f.result f.ensures c.if-below.false)

pub returns : goal.returns
returns c = answer c.args.x c.floor_i64-below.result c.floor_i64-below.ensures
    c.if-below.false
