-- Calls that are the same by their bytes and numbers are equal: a test that passes is an equation, and a record is
-- equal field by field. Provides: `bytes_same`, `whole_same`, `image_same`, `given_same`, `alike_same`.
-- Assumes nothing.
use mathlib.Core.Path.{◌≡◌, refl, ap}
use mathlib.Core.Bool.{true, false≢true}
use mathlib.Core.List.{List, [], ◌∷◌}
use Prim.Native.Nat.{ℕ}
use lib.Dec.{eqb}
use lib.IntN.{ℤ, pos, negsuc}
use borrow.Author.Tests.{eqb-true}
use Rattle.exact.proofs.Booleans.{both}
use Rattle.distort.specs.Job.{Image, Given, Call}
use Rattle.chain.specs.Warps.{same_bytes, same_whole, same_image, same_given, alike}

pub bytes_same : (xs ys : List ℕ) → same_bytes xs ys ≡ true → xs ≡ ys
unfolding same_bytes
bytes_same [] [] e = refl
bytes_same [] (y ∷ ys) e = absurd (false≢true e)
bytes_same (x ∷ xs) [] e = absurd (false≢true e)
bytes_same (x ∷ xs) (y ∷ ys) e =
    let h = both (eqb x y) (same_bytes xs ys) e in
    λ i. eqb-true x y h.0 i ∷ bytes_same xs ys h.1 i

pub whole_same : (m n : ℤ) → same_whole m n ≡ true → m ≡ n
unfolding same_whole
whole_same (pos m) (pos n) e = ap pos (eqb-true m n e)
whole_same (pos m) (negsuc n) e = absurd (false≢true e)
whole_same (negsuc m) (pos n) e = absurd (false≢true e)
whole_same (negsuc m) (negsuc n) e = ap negsuc (eqb-true m n e)

pub image_same : (p q : Image) → same_image p q ≡ true → p ≡ q
unfolding same_image
image_same p q e =
    let a = both (same_bytes p.bytes q.bytes) _ e in
    let b = both (eqb p.width q.width) _ a.1 in
    let c = both (eqb p.height q.height) _ b.1 in
    λ i. record {
      bytes = bytes_same p.bytes q.bytes a.0 i;
      width = eqb-true p.width q.width b.0 i;
      height = eqb-true p.height q.height c.0 i;
      channels = eqb-true p.channels q.channels c.1 i;
    }

pub given_same : (g h : Given) → same_given g h ≡ true → g ≡ h
unfolding same_given
given_same g h e =
    let a = both (eqb g.method h.method) _ e in
    let b = both (same_bytes g.arguments h.arguments) _ a.1 in
    let c = both (eqb g.policy h.policy) _ b.1 in
    let d = both (eqb g.interpolation h.interpolation) _ c.1 in
    let f = both (same_bytes g.background h.background) _ d.1 in
    let k = both (same_bytes g.matte h.matte) _ f.1 in
    let l = both (eqb g.bestfit h.bestfit) _ k.1 in
    let m = both (eqb g.viewport h.viewport) _ l.1 in
    let n = both (eqb g.view_width h.view_width) _ m.1 in
    let o = both (eqb g.view_height h.view_height) _ n.1 in
    let p = both (same_whole g.view_x h.view_x) _ o.1 in
    λ i. record {
      method = eqb-true g.method h.method a.0 i;
      arguments = bytes_same g.arguments h.arguments b.0 i;
      policy = eqb-true g.policy h.policy c.0 i;
      interpolation = eqb-true g.interpolation h.interpolation d.0 i;
      background = bytes_same g.background h.background f.0 i;
      matte = bytes_same g.matte h.matte k.0 i;
      bestfit = eqb-true g.bestfit h.bestfit l.0 i;
      viewport = eqb-true g.viewport h.viewport m.0 i;
      view_width = eqb-true g.view_width h.view_width n.0 i;
      view_height = eqb-true g.view_height h.view_height o.0 i;
      view_x = whole_same g.view_x h.view_x p.0 i;
      view_y = whole_same g.view_y h.view_y p.1 i;
    }

pub alike_same : (c d : Call) → alike c d ≡ true → (c.image ≡ d.image) × (c.given ≡ d.given)
unfolding alike
alike_same c d e =
    let h = both (same_image c.image d.image) (same_given c.given d.given) e in
    (image_same c.image d.image h.0, given_same c.given d.given h.1)
