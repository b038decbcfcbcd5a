-- The two cases of `build`, from what the code's calls ensure: where no refusal from 3 to 7 applies there are at most
-- 64 pairs, and the store holds all arguments. Assumes nothing.
use Rattle.std.proofs.Common.{◌≡◌, ℕ, ◌-◌, ◌/◌, ◌≤◌, cond, List, pos, sym, ap, ◌∙◌, arith, eq-eqb, ne_eqb}
use mathlib.Core.Path.{subst⁻¹}
use lib.Ieee.{Float, nan, binary64, of_int}
use Rattle.arguments.specs.Method.{skip}
use Rattle.arguments.specs.Refusal.{pairs_in, pairs_of, arguments_refusal}
use Rattle.arguments.specs.Store.{count_of, held_of, values_of, order_of}
use Rattle.arguments.proofs.AcceptedLaws.{Accepted, accepted}
use Rattle.arguments.proofs.StoreLaws.{held_all, order_value}
use Rattle.refusals.specs.declared.Refusal.{Refusal}
use Rattle.refusals.specs.declared.Refusal.TheVariants.{
  Size,
  Stock,
  Code,
  Count,
  Number,
  Order,
  Few,
  Degenerate,
  Window,
  Rows,
  Tray,
}
use Rattle.refusals.specs.Number.{number}
use Rattle.fit.specs.Build.{made, build}
use Rattle.mappings.specs.Mapping.{Fitted, refused}
use Rattle.exact.specs.Vector.{Vector, at}

-- a refusal's number is not 0
pub number_some : (r : Refusal) → number r ≡ 0 → ⊥
number_some Size e = omega arith
number_some Stock e = omega arith
number_some Code e = omega arith
number_some Count e = omega arith
number_some Number e = omega arith
number_some Order e = omega arith
number_some Few e = omega arith
number_some Degenerate e = omega arith
number_some Window e = omega arith
number_some Rows e = omega arith
number_some Tray e = omega arith

module _ (m : ℕ) (bytes : List ℕ) {number : ℕ} (told : number ≡ arguments_refusal m bytes) where
  none : number ≡ 0 → Accepted m bytes
  none e = accepted m bytes (sym told ∙ e)

  pub few_pairs_law : {pairs : ℕ} → number ≡ 0 → pairs ≡ pairs_of m bytes → pairs ≤ 64
  unfolding pairs_of
  few_pairs_law e p = subst⁻¹ (λ (k : ℕ). k ≤ 64) p (fours (count_of bytes) (skip m) (none e).room)
    where
      fours : (n s : ℕ) → n ≤ 257 → (n - s) / 4 ≤ 64
      fours n s h = omega arith

  -- the store holds all arguments, so the pairs and the order are read from it
  pub pairs_held : {count pairs : ℕ} → number ≡ 0 → count ≡ held_of bytes → pairs ≡ pairs_in m count
      → pairs ≡ pairs_of m bytes
  unfolding pairs_of
  pairs_held e c p = p ∙ ap (pairs_in m) (c ∙ held_all bytes (none e).room)

  pub order_held : {values : Vector} → values ≡ values_of bytes → at values 0 ≡ order_of bytes
  order_held e = ap (λ (v : Vector). at v 0) e ∙ sym (order_value bytes nan)

  module _ (width height : ℕ) {r : Fitted} where
    pub build_refused : (number ≡ 0 → ⊥) → r ≡ refused number → r ≡ build m bytes width height
    unfolding build
    build_refused h e =
        e
        ∙ ap refused told
        ∙ sym (ap (λ b. cond b (made m (values_of bytes) (count_of bytes) (pairs_of m bytes) (order_of bytes)
        (of_int binary64 (pos width)) (of_int binary64 (pos height))) (refused (arguments_refusal m bytes)))
        (ne_eqb (arguments_refusal m bytes) 0 (λ q. h (told ∙ q))))

    pub build_made : number ≡ 0 → {values : Vector} {count pairs : ℕ} {order w h : Float} → values ≡ values_of bytes
        → count ≡ held_of bytes → pairs ≡ pairs_of m bytes → order ≡ order_of bytes → w ≡ of_int binary64 (pos width)
        → h ≡ of_int binary64 (pos height) → r ≡ made m values count pairs order w h → r ≡ build m bytes width height
    unfolding build
    build_made z ev ec ep eo ew eh e =
        e
        ∙ same ev (ec ∙ held_all bytes (none z).room) ep eo ew eh
        ∙ sym (ap (λ b. cond b (made m (values_of bytes) (count_of bytes) (pairs_of m bytes) (order_of bytes)
        (of_int binary64 (pos width)) (of_int binary64 (pos height))) (refused (arguments_refusal m bytes)))
        (eq-eqb (arguments_refusal m bytes) 0 (sym told ∙ z)))
      where
        same : {v v' : Vector} {c c' p p' : ℕ} {o o' w w' h h' : Float} → v ≡ v' → c ≡ c' → p ≡ p' → o ≡ o' → w ≡ w'
            → h ≡ h' → made m v c p o w h ≡ made m v' c' p' o' w' h'
        same a b d e f g i = made m (a i) (b i) (d i) (e i) (f i) (g i)
