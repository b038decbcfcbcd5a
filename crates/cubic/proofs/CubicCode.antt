-- Where the four distances lie in their own pieces, the kernel's tests choose those. Assumes nothing.
use mathlib.Core.Path.{◌≡◌, refl, sym, ap, ◌∙◌}
use mathlib.Core.Bool.{Bool, true, false, not, cond, ◌&&◌, true≢false}
use mathlib.Core.List.{List, [], ◌∷◌}
use lib.Ieee.{Float, lt}
use Rattle.exact.specs.Single.{◌⊘◌}
use Rattle.exact.proofs.Booleans.{both}
use Rattle.cubic.specs.declared.cubic.CubicRow.{CubicRow}
use Rattle.cubic.specs.declared.cubic.Distances.{Distances}
use Rattle.cubic.specs.Cubic.{
  zero,
  one,
  two,
  six,
  near_piece,
  far_piece,
  pieces,
  distances_of,
  outer,
  between,
  middle,
  cubic_weights,
}

near_chosen : (row : CubicRow) (x : Float) → lt x one ≡ true → pieces row x ≡ near_piece row x
unfolding pieces
near_chosen row x h = rw h

far_chosen : (row : CubicRow) (x : Float) → outer x ≡ true → pieces row x ≡ far_piece row x
unfolding pieces outer
far_chosen row x h = go (lt x one) (lt x two) h
  where
    go : (u v : Bool) → (not u && v) ≡ true → cond u (near_piece row x) (cond v (far_piece row x) zero) ≡ far_piece row x
    go true v e = absurd (true≢false (sym e))
    go false true e = refl
    go false false e = absurd (true≢false (sym e))

pub middle_weights : (row : CubicRow) (t : Float) {d : Distances} {u : Bool} {w : List Float} → d ≡ distances_of t
    → u ≡ between d → u ≡ true → w ≡ middle row d → w ≡ cubic_weights t row
unfolding between
middle_weights row t {d} e f h g =
    let l = both (outer d.first && lt d.second one) (lt d.third one && outer d.fourth) (sym f ∙ h) in
    let m = both (outer d.first) (lt d.second one) l.0 in
    let n = both (lt d.third one) (outer d.fourth) l.1 in
    g
    ∙ sym (λ i. (far_chosen row d.first m.0 i ⊘ six) ∷ (near_chosen row d.second m.1 i ⊘ six)
    ∷ (near_chosen row d.third n.0 i ⊘ six) ∷ (far_chosen row d.fourth n.1 i ⊘ six) ∷ [])
    ∙ ap (λ (d : Distances). (pieces row d.first ⊘ six) ∷ (pieces row d.second ⊘ six)
    ∷ (pieces row d.third ⊘ six) ∷ (pieces row d.fourth ⊘ six) ∷ []) e
