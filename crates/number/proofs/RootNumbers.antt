-- The root of a finite f64 above 0 in whole numbers, with all that the laws of RootLaws.antt use: put together from its
-- units, the scaled number and the value of the result. Assumes nothing.
use Rattle.std.proofs.Common.{◌≡◌, ℕ, ◌+◌, ◌*◌, ◌^◌, ◌<◌, ◌≤◌, true, false, T, sym, ap, ◌∙◌, subst, lt_of_lt_of_le, mul_assoc, arith, lit≤, pow_pos, pow-add}
use lib.Count.{leading_top}
use lib.Ieee.{Float, nan, inf, fin, binary64, fits}
use lib.Ieee.Exact.{HasValue}
use lib.Ieee.Positive.{positive, first_pos, value_pos}
use Rattle.exact.proofs.Naturals.{four_pow}
use Rattle.exact.proofs.Units.{Units, units}
use Rattle.number.specs.Root.{root}
use Rattle.number.proofs.RootWhole.{Nearest}
use Rattle.number.proofs.RootScale.{moved, scaled, moved_sized, raised_ge, raised_lt, root_near}
use Rattle.number.proofs.RootValue.{half, digits, digits_ge, root_value}
use Rattle.number.proofs.RootPositive.{root_of_law}

-- x is n units of 2 ^ -1074, its root q * 2 ^ g of them, and a is n scaled
pub record Rooted (x : Float) : Type 0 where
  pub n : ℕ
  pub a : ℕ
  pub q : ℕ
  pub g : ℕ
  pub value : HasValue x false n (2 ^ 1074)
  pub root_is : HasValue (root x) false (q * 2 ^ g) (2 ^ 1074)
  pub scale : 4 * n * 2 ^ 1074 ≡ 4 * a * (2 ^ g * 2 ^ g)
  pub near : Nearest a q
  pub least : 2 ^ 52 ≤ q
  pub large : 2 ^ 104 ≤ a
  pub limited : a < 2 ^ 106

scale_is : (n a h : ℕ) → a * 4 ^ h ≡ n * 2 ^ 104 → 4 * n * 2 ^ 1074 ≡ 4 * a * (2 ^ (h + 485) * 2 ^ (h + 485))
scale_is n a h e =
    mul_assoc 4 n (2 ^ 1074)
    ∙ ap (λ (z : ℕ). 4 * z)
    (ap (λ (z : ℕ). n * z) (pow-add 2 104 970)
    ∙ sym (mul_assoc n (2 ^ 104) (2 ^ 970))
    ∙ ap (λ (z : ℕ). z * 2 ^ 970) (sym e ∙ ap (λ (z : ℕ). a * z) (four_pow h))
    ∙ mul_assoc a (2 ^ (h + h)) (2 ^ 970)
    ∙ ap (λ (z : ℕ). a * z) (sym (pow-add 2 (h + h) 970) ∙ ap (λ (z : ℕ). 2 ^ z) (twice h)
    ∙ pow-add 2 (h + 485) (h + 485)))
    ∙ sym (mul_assoc 4 a (2 ^ (h + 485) * 2 ^ (h + 485)))
  where
    twice : (h : ℕ) → h + h + 970 ≡ h + 485 + (h + 485)
    twice h = omega arith

fewer : (t : ℕ) → t + 2 ≤ 2 ^ 54 → t < 2 ^ 54
fewer t h = omega arith

of_units : (x : Float) (m k : ℕ) → T (positive x) → Units binary64 x false m k → Rooted x
of_units x m k p u =
    let top = leading_top 64 m (first_pos m (2 ^ k) (value_pos x (m * 2 ^ k) (2 ^ 1074) p (pow_pos 1074) u.value))
    (lt_of_lt_of_le u.short (lit≤ tt)) in
    let j = top.0 in
    let lo = top.2 in
    let hi = top.3 in
    let s = u.short in
    let z = moved_sized m k j lo hi s in
    let t = moved m k j lo hi s in
    record {
      n = m * 2 ^ k;
      a = t * 2 ^ 52;
      q = digits m k j lo hi s u.under;
      g = half m k j lo hi s u.under + 485;
      value = u.value;
      root_is = subst (λ (r : Float).
          HasValue r false (digits m k j lo hi s u.under * 2 ^ (half m k j lo hi s u.under + 485)) (2 ^ 1074))
          (sym (root_of_law x (m * 2 ^ k) p u.value)) (root_value m k j lo hi s u.under);
      scale = scale_is (m * 2 ^ k) (t * 2 ^ 52) (half m k j lo hi s u.under) (scaled m k j lo hi s);
      near = root_near t z.0 z.1;
      least = digits_ge m k j lo hi s u.under;
      large = raised_ge t z.0;
      limited = raised_lt t (fewer t z.1);
    }

pub rooted : (x : Float) → T (fits binary64 x) → T (positive x) → Rooted x
rooted nan f p = absurd p
rooted (inf s) f p = absurd p
rooted (fin true m e) f p = absurd p
rooted (fin false m e) f p = let u = units binary64 false m e f in of_units (fin false m e) m u.0 p u.1
