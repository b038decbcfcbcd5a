-- The code's r, for x in the domain, is a whole number z; where x is below r the floor is z - 1, and otherwise it is z.
-- And x is not below its floor. Assumes nothing.
use Rattle.std.proofs.Common.{◌≡◌, ℕ, ◌*◌, ◌≤◌, Bool, true, false, cond, not, T, ℤ, pos, ◌-ℤ◌, nat_abs, sym, refl, ◌∙◌, subst, true≢false, leb→le}
use lib.IntN.{sub_ℕ}
use lib.Ieee.{Float, nan, inf, fin, binary64, up, down, lt, of_int}
use lib.Ieee.Fits.{down_pos}
use lib.Ieee.Nearest.{closest}
use Rattle.exact.specs.Double.{◌⊕◌, ◌⊖◌}
use Rattle.number.specs.Floor.{floorℤ, in_domain}
use Rattle.number.proofs.FloorNear.{shift, floor_of}
use Rattle.number.proofs.FloorRound.{K, C, near_is, near_small, near_fall, floor_under}

pub record Rounded (x : Float) : Type 0 where
  pub z : ℤ
  pub is : x ⊕ C ⊖ C ≡ of_int binary64 z
  pub small : nat_abs z ≤ 2251799813685248
  pub fall : z -ℤ cond (lt x (x ⊕ C ⊖ C)) (pos 1) (pos 0) ≡ floorℤ x
  pub under : T (not (lt x (of_int binary64 (floorℤ x))))

floor_of_law : (s : Bool) (m : ℕ) (e : ℤ) → floor_of s (m * up e) (down e) ≡ floorℤ (fin s m e)
unfolding floorℤ
floor_of_law false m e = refl
floor_of_law true m e = refl

rounded_fin : (s : Bool) (m : ℕ) (e : ℤ) → m * up e ≤ 2147483648 * down e → Rounded (fin s m e)
rounded_fin s m e A = record {
  z = sub_ℕ (closest (shift s (m * up e) (down e) K) (down e)) K;
  is = near_is (fin s m e) s (m * up e) (down e) (down_pos e) A (refl, refl);
  small = near_small (fin s m e) s (m * up e) (down e) (down_pos e) A (refl, refl);
  fall = near_fall (fin s m e) s (m * up e) (down e) (down_pos e) A (refl, refl) ∙ floor_of_law s m e;
  under = subst (λ (z : ℤ). T (not (lt (fin s m e) (of_int binary64 z)))) (floor_of_law s m e)
      (floor_under (fin s m e) s (m * up e) (down e) (down_pos e) A (refl, refl));
}

pub rounded : (x : Float) → T (in_domain x) → Rounded x
unfolding in_domain
rounded nan d = absurd d
rounded (inf s) d = absurd d
rounded (fin s m e) d = rounded_fin s m e (leb→le (m * up e) (2147483648 * down e) d)

-- ---- the test that both functions begin with
pub inside : (x : Float) (b : Bool) → b ≡ in_domain x → not b ≡ false → T (in_domain x)
inside x true e h = subst T e tt
inside x false e h = absurd (true≢false h)

pub outside : (x : Float) (b : Bool) → b ≡ in_domain x → not b ≡ true → T (not (in_domain x))
outside x b e h = subst (λ (u : Bool). T (not u)) e (subst T (sym h) tt)
