-- `sampler::fast_sixteen::cubic` meets its contract: where the bits of both first indexes are below the sides less
-- three, all sixteen taps lie inside.
use mathlib.Core.Path.{◌≡◌, sym, ap, ◌∙◌}
use Prim.Native.Nat.{ℕ, ◌+◌, ◌-◌, ◌^◌, ◌≤◌, ◌<◌}
use native.Mathlib.Omega.{arith}
use lib.IntN.{ℤ, pos, ◌-ℤ◌}
use lib.Signed.{mag}
use mir.Syntax.{w64}
use mir.Val.{of_z, to_z}
use Rattle.endian.specs.Bytes.{twos_complement}
use Rattle.policies.proofs.IndexCode.{argument, bits_inside}
use Rattle.taps.proofs.CellLaws.{floor_small}
use Rattle.taps.proofs.SignedCode.{again, asked}
use Rattle.sampler.proofs.SixteenCode.{cubic_inside, cubic_anywhere}
use Rattle.policies.specs.Named as Policies
use Rattle.taps.specs.Interpolation.{code_of}
use Rattle.taps.specs.Sampler.{plane_of}
use Rattle.taps.specs.declared.interpolation.Interpolation.{Interpolation}
use Rattle.taps.proofs.InterpolationCode.{interpolation_code}
use Rattle.sampler.specs.Interpolate.{several}
use Rattle.sampler.proofs.InterpolateCode.{sampled_code}
use Rattle.sampler.proofs.fast_sixteen.cubic.Goals as goal

-- a first index that is below a side less three
inside : (i n s : ℕ) → s ≡ n - 3 → i < s → i + 3 < n
inside i n s e h = omega arith

less : {i n : ℕ} → i + 3 < n → i < n
less h = omega arith

-- the index one before the floor, by its bits
started : {b n : ℕ} {z : ℤ} (r v : ℤ) → mag r < 2 ^ 63 → mag v < 2 ^ 63 → b ≡ twos_complement (to_z w64 (of_z w64 r))
    → r ≡ to_z w64 (of_z w64 v) -ℤ pos 1 → v ≡ z → b + 3 < n → n ≤ 4096 → pos b ≡ z -ℤ pos 1
started {b} {n} {z} r v fr fv eb er ev h g =
    sym (bits_inside {v = r} {b = b} {n = n} (argument {v = r} (record { sfits = fr }) eb) (less h) g) ∙ er
    ∙ ap (λ (y : ℤ). y -ℤ pos 1) (again v fv ev)

pub before-requires : goal.before-requires
before-requires c = asked 2147483648 c.below.result c.below.type_inv c.below.ensures
    (floor_small c.args.x c.requires.reached.0)

pub before-requires-2 : goal.before-requires-2
before-requires-2 c =
    asked 2147483648 c.below-2.result c.below-2.type_inv c.below-2.ensures
    (floor_small c.args.y
    c.requires.reached.1)

pub four_by_four-requires : goal.four_by_four-requires
four_by_four-requires c = (
  inside _ _ _ c.side_less.ensures c.if-i-side_less.true,
  inside _ _ _ c.side_less-then-i-side_less.ensures c.if-j-side_less.true,
)

pub returns-then-j-side_less : goal.returns-then-j-side_less
returns-then-j-side_less c =
    let hx = inside _ _ _ c.side_less.ensures
    c.if-i-side_less.true in
    let hy = inside _ _ _ c.side_less-then-i-side_less.ensures
    c.if-j-side_less.true in
    let p = c.args.s.picture.fits.sizes in
    cubic_inside _ _ _ _ (Policies.code_of c.args.s.policy) c.args.s.background _ _ (code_of c.args.interpolation)
    c.requires.cubic _ _ hx hy
    (started c.before-2.result
    c.below.result
    c.before-2.type_inv
    c.below.type_inv
    c.bits_of_i64-i.ensures
    c.before-2.ensures
    c.below.ensures hx p.width_most)
    (started c.before-3.result c.below-2.result
    c.before-3.type_inv c.below-2.type_inv
    c.bits_of_i64-j.ensures
    c.before-3.ensures c.below-2.ensures hy p.height_most)
    c.fraction.ensures
    c.fraction-then-j-side_less.ensures
    c.kernel_of-wx.ensures c.kernel_of-wy.ensures
    c.four_by_four.ensures
    ∙ sym (sampled_code c.args.s c.args.interpolation _ _)

pub returns : goal.returns
returns c =
    let s = c.args.s in
    let i = c.args.interpolation in
    cubic_anywhere _ _ _ _ (Policies.code_of s.policy) s.background _ _ (code_of i) c.requires.cubic
    (c.several.ensures
    ∙ ap (λ (k : Interpolation). several k (plane_of s) c.args.x c.args.y) (sym (interpolation_code i)))
    ∙ sym (sampled_code s i _ _)
