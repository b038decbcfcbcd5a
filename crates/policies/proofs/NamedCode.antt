-- What the code of the policies goes by: the code of a policy is its own, the test for what is inside on the bits
-- alone, and two parities have an even sum where they are equal. Assumes nothing.
use mathlib.Core.Path.{◌≡◌, refl, sym, ap, ◌∙◌}
use Rattle.std.specs.Prelude.{Result, Ok, Err}
use Rattle.std.specs.Result.{is_err, result_unwrap_or}
use Rattle.refusals.specs.declared.Refusal.{Refusal}
use mathlib.Core.List.{List, [], ◌∷◌}
use mathlib.Core.Bool.{Bool, true, false, cond, ◌&&◌}
use Prim.Native.Nat.{ℕ, zero, suc, ◌+◌, ◌-◌, ◌%◌, ◌≤◌, ◌<◌}
use native.Mathlib.Omega.{arith}
use lib.Dec.{eqb, ltb, lit≤}
use lib.IntN.{ℤ}
use lib.Signed.{mag}
use lib.ListN.{get_or}
use lib.Seq.{get_or-append-add}
use borrow.Author.Tests.{eq-eqb, ne_eqb, lt-ltb, le-ltb}
use Rattle.policies.specs.Index.{signed, in_range}
use Rattle.policies.specs.Named.{Sizes, policies, policy, code_of, Decodes, outside, named}
use Rattle.policies.specs.declared.policy.Policy.{Policy}
use Rattle.policies.specs.declared.policy.Policy.TheVariants.{
  Edge,
  Background,
  Black,
  White,
  Gray,
  Transparent,
  Tile,
  Mirror,
  HorizontalTile,
  VerticalTile,
  HorizontalTileEdge,
  VerticalTileEdge,
  CheckerTile,
  Random,
}
use Rattle.policies.specs.declared.named.Tap.TheVariants.{Pixel}
use Rattle.policies.proofs.IndexCode.{signed_inside, within_yes, within_no}

pub policy_code : (p : Policy) → policy (code_of p) ≡ p
unfolding policy
policy_code Edge = refl
policy_code Background = refl
policy_code Black = refl
policy_code White = refl
policy_code Gray = refl
policy_code Transparent = refl
policy_code Tile = refl
policy_code Mirror = refl
policy_code HorizontalTile = refl
policy_code VerticalTile = refl
policy_code HorizontalTileEdge = refl
policy_code VerticalTileEdge = refl
policy_code CheckerTile = refl
policy_code Random = refl

-- the last code, and one that none of the fourteen has, is read as the last
pub policy_last : (code : ℕ) → 13 ≤ code → policy code ≡ Random
unfolding policy
policy_last code h = ap (λ (k : ℕ). get_or policies k Random) (split code h)
    ∙ get_or-append-add first (Random ∷ []) (code - 13) Random ∙ only (code - 13)
  where
    first : List Policy
    first =
        Edge ∷ Background ∷ Black ∷ White ∷ Gray ∷ Transparent ∷ Tile ∷ Mirror ∷ HorizontalTile ∷ VerticalTile
        ∷ HorizontalTileEdge ∷ VerticalTileEdge ∷ CheckerTile ∷ []

    split : (n : ℕ) → 13 ≤ n → n ≡ 13 + (n - 13)
    split n h = omega arith

    only : (n : ℕ) → get_or (Random ∷ []) n Random ≡ Random
    only zero = refl
    only (suc n) = refl

-- what a code is read as, the last where it is refused
pub decoded : (code : ℕ) (r : Result Policy Refusal) → Decodes code r → result_unwrap_or r Random ≡ policy code
decoded code (Ok p) h = sym (policy_code p) ∙ ap policy h
decoded code (Err e) h = sym (policy_last code (omega arith))

-- no code is above the last
code_small : (p : Policy) → code_of p ≤ 13
code_small Edge = lit≤ tt
code_small Background = lit≤ tt
code_small Black = lit≤ tt
code_small White = lit≤ tt
code_small Gray = lit≤ tt
code_small Transparent = lit≤ tt
code_small Tile = lit≤ tt
code_small Mirror = lit≤ tt
code_small HorizontalTile = lit≤ tt
code_small VerticalTile = lit≤ tt
code_small HorizontalTileEdge = lit≤ tt
code_small VerticalTileEdge = lit≤ tt
code_small CheckerTile = lit≤ tt
code_small Random = lit≤ tt

-- a code is refused where it is above the last
pub refused : (code : ℕ) (r : Result Policy Refusal) → Decodes code r → is_err r ≡ ltb 13 code
refused code (Ok p) h = sym (le-ltb 13 code (rw (← h) (code_small p)))
refused code (Err e) h = sym (lt-ltb 13 code h.1)

-- and one that is not is that of the policy it is read as
pub code_policy : (code : ℕ) → code ≤ 13 → code_of (policy code) ≡ code
unfolding policy
code_policy zero h = refl
code_policy (suc zero) h = refl
code_policy (suc (suc zero)) h = refl
code_policy (suc (suc (suc zero))) h = refl
code_policy (suc (suc (suc (suc zero)))) h = refl
code_policy (suc (suc (suc (suc (suc zero))))) h = refl
code_policy (suc (suc (suc (suc (suc (suc zero)))))) h = refl
code_policy (suc (suc (suc (suc (suc (suc (suc zero))))))) h = refl
code_policy (suc (suc (suc (suc (suc (suc (suc (suc zero)))))))) h = refl
code_policy (suc (suc (suc (suc (suc (suc (suc (suc (suc zero))))))))) h = refl
code_policy (suc (suc (suc (suc (suc (suc (suc (suc (suc (suc zero)))))))))) h = refl
code_policy (suc (suc (suc (suc (suc (suc (suc (suc (suc (suc (suc zero))))))))))) h = refl
code_policy (suc (suc (suc (suc (suc (suc (suc (suc (suc (suc (suc (suc zero)))))))))))) h = refl
code_policy (suc (suc (suc (suc (suc (suc (suc (suc (suc (suc (suc (suc (suc zero))))))))))))) h = refl
code_policy (suc (suc (suc (suc (suc (suc (suc (suc (suc (suc (suc (suc (suc (suc n)))))))))))))) h = absurd (omega arith)

-- the code of what a code is read as names the same
pub named_code : (code w h : ℕ) (x y : ℤ) → named (code_of (policy code)) w h x y ≡ named code w h x y
unfolding named
named_code code w h x y = rw policy_code

-- equal parities have an even sum, and unequal ones an odd
pub same_parity : (p q : ℕ) → p ≡ q → eqb ((p + q) % 2) 0 ≡ true
same_parity p q e = eq-eqb ((p + q) % 2) 0 (omega arith)

pub other_parity : (p q : ℕ) → p < 2 → q < 2 → (p ≡ q → ⊥) → eqb ((p + q) % 2) 0 ≡ false
other_parity p q f g ne = ne_eqb ((p + q) % 2) 0 (λ e. ne (omega arith))

-- an index inside names its own pixel, whatever the code
pub named_bits : (code w h i j : ℕ) → Sizes w h → i < w → j < h → named code w h (signed i) (signed j) ≡ Pixel i j
unfolding named
named_bits code w h i j s hi hj =
    rw (
      within_yes i w hi s.width_most,
      within_yes j h hj s.height_most,
      signed_inside i w hi s.width_most,
      signed_inside j h hj s.height_most,
    )

-- one outside, by its column or its row, goes by the policy
pub named_beside : (code w h i : ℕ) (y : ℤ) → w ≤ i
    → named code w h (signed i) y ≡ outside (policy code) w h (signed i) y
unfolding named
named_beside code w h i y g = rw (within_no i w g)

pub named_above : (code w h : ℕ) (x : ℤ) (j : ℕ) → h ≤ j
    → named code w h x (signed j) ≡ outside (policy code) w h x (signed j)
unfolding named
named_above code w h x j g = rw (within_no j h g) (go (in_range x w))
  where
    go : (t : Bool) → cond (t && false) (Pixel (mag x) (mag (signed j))) (outside (policy code) w h x (signed j))
        ≡ outside (policy code) w h x (signed j)
    go true = refl
    go false = refl
