-- `window::extent::held` meets its contract: by the test, which is the definition's. Assumes nothing.
use Rattle.std.proofs.Common.{◌≡◌, ℕ, Bool, true, false, cond, ◌&&◌, ltb, leb, ℤ, sym, refl, ap, ◌∙◌, w64, to_z, of_z}
use mir.ValLaws.{to_z-of_z}
use Rattle.std.specs.Prelude.{Some, None}
use Rattle.window.specs.Extent.{side, good_offset, good_length, held}
use Rattle.window.proofs.extent.held.Goals as goal

-- the tests in the code's order, of z read back from its bits as y
module _ (y z : ℤ) (n : ℕ) (e : y ≡ z) (g : Bool) (h : g ≡ good_offset y) where
  together : (g && ltb 0 n && leb n 4096) ≡ (good_offset z && good_length n)
  unfolding good_length
  together = ap (λ (b : Bool). b && ltb 0 n && leb n 4096) (h ∙ ap good_offset e)
      ∙ nest (good_offset z) (ltb 0 n) (leb n 4096)
    where
      nest : (a b c : Bool) → (a && b && c) ≡ (a && (b && c))
      nest true b c = refl
      nest false b c = refl

  kept : (g && ltb 0 n && leb n 4096) ≡ true → Some (side y n) ≡ held z n
  unfolding held
  kept t = ap (λ (x : ℤ). Some (side x n)) e ∙ sym (ap (λ (b : Bool). cond b (Some (side z n)) None) (sym together ∙ t))

  beyond : (g && ltb 0 n && leb n 4096) ≡ false → None ≡ held z n
  unfolding held
  beyond t = sym (ap (λ (b : Bool). cond b (Some (side z n)) None) (sym together ∙ t))

pub returns-then-good_offset-length : goal.returns-then-good_offset-length
returns-then-good_offset-length c =
    let s = c in
    kept (to_z w64 (of_z w64 s.args.from)) s.args.from s.args.length
    (to_z-of_z w64 s.args.from s.ranges.from) c.good_offset.result
    c.good_offset.ensures c.if-good_offset-length.true

pub returns : goal.returns
returns c =
    let s = c in
    beyond (to_z w64 (of_z w64 s.args.from)) s.args.from s.args.length
    (to_z-of_z w64 s.args.from s.ranges.from) c.good_offset.result
    c.good_offset.ensures c.if-good_offset-length.false
