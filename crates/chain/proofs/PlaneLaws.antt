-- A faithful picture in opaque surroundings is near the exact one over the whole plane: a policy names the same pixel
-- or colour in both, a pixel that is named lies inside the picture, and a colour is its own fractions. Provides:
-- `opaque_place`, `exact`, `plane_units`, `plane_near`, `plane_unit`, `plane_alpha`. Assumes nothing.
use mathlib.Core.Path.{◌≡◌, refl, sym, ap, ◌∙◌, subst}
use mathlib.Core.Bool.{Bool, true, false, false≢true}
use mathlib.Core.List.{List, [], ◌∷◌}
use mathlib.Core.Logic.{◌⊎◌, ⊎_elim}
use Prim.Native.Nat.{ℕ, zero, suc, ◌+◌, ◌*◌, ◌<◌}
use native.Mathlib.Nat.{add-zero}
use native.Mathlib.Omega.{arith}
use lib.Dec.{lit≤}
use lib.IntN.{ℤ}
use lib.ListN.{get_or, drop}
use lib.Ieee.{Float}
use Rattle.exact.specs.Fraction.{Fraction, frac, value, ◌≈◌, Within, Unit01}
use Rattle.exact.proofs.Near.{within_same}
use Rattle.exact.proofs.Products.{eq_refl, back, unit_one, unit_same}
use Rattle.endian.specs.Bytes.{sample_at}
use Rattle.picture.specs.At.{tap_samples, at}
use Rattle.picture.specs.Colour as Colour
use Rattle.policies.specs.declared.policy.Policy.{Policy}
use Rattle.policies.specs.declared.policy.Policy.TheVariants.{Transparent}
use Rattle.policies.specs.Named.{policies, policy, transparent_code, named, Lies}
use Rattle.sampler.specs.Opaque.{OpaquePlace, Exact, UnitExact, NearExact}
use Rattle.picture.specs.Pixel.{Picture, widened, pixel_at}
use Rattle.taps.specs.Weighted.{Opaque}
use Rattle.picture.specs.declared.colour.Rgba.{Rgba}
use Rattle.policies.specs.declared.named.Tap.{Tap}
use Rattle.sampler.proofs.AtOpaque.{at_opaque}
use Rattle.policies.proofs.NamedLaws.{named_lies}
use Rattle.distort.specs.Job.{Image, Given, colour_of}
use Rattle.distort.proofs.SampleLaws.{part as component}
use Rattle.chain.specs.Demand.{OpaqueColour}
use Rattle.chain.specs.Exact.{ExactImage, place, part, tapped, plane}
use Rattle.chain.proofs.Faithful.{Faithful, error_nonneg, opaque_value, held_unit, opaque_picture}

-- ---- a colour's components
part_value : (c : Rgba) (k : ℕ) → value (component c k) ≡ part c k
part_value c zero = refl
part_value c (suc zero) = refl
part_value c (suc (suc zero)) = refl
part_value c (suc (suc (suc n))) = refl

-- of a pixel they are its samples
module _ (bytes : List ℕ) (w x y : ℕ) where
  three : (k : ℕ) → k < 3 → component (pixel_at bytes w 3 x y) k ≡ sample_at bytes (place w 3 x y k)
  unfolding pixel_at widened
  three zero h = ap (sample_at bytes) (sym (add-zero ((y * w + x) * 3)))
  three (suc zero) h = refl
  three (suc (suc zero)) h = refl
  three (suc (suc (suc n))) h = absurd (omega arith)

  four : (k : ℕ) → k < 4 → component (pixel_at bytes w 4 x y) k ≡ sample_at bytes (place w 4 x y k)
  unfolding pixel_at widened
  four zero h = ap (sample_at bytes) (sym (add-zero ((y * w + x) * 4)))
  four (suc zero) h = refl
  four (suc (suc zero)) h = refl
  four (suc (suc (suc zero))) h = refl
  four (suc (suc (suc (suc n)))) h = absurd (omega arith)

  pixel_sample : (c : ℕ) → (c ≡ 3) ⊎ (c ≡ 4) → (k : ℕ) → k < c
      → component (pixel_at bytes w c x y) k ≡ sample_at bytes (place w c x y k)
  pixel_sample c s k h = ⊎_elim (λ (e : c ≡ 3). along 3 e (three k)) (λ (e : c ≡ 4). along 4 e (four k)) s
    where
      along : (d : ℕ) → c ≡ d → (k < d → component (pixel_at bytes w d x y) k ≡ sample_at bytes (place w d x y k))
          → component (pixel_at bytes w c x y) k ≡ sample_at bytes (place w c x y k)
      along d e f = subst (λ (n : ℕ). k < n → component (pixel_at bytes w n x y) k ≡ sample_at bytes (place w n x y k))
          (sym e) f h

-- ---- opaque colours
part_unit : (c : Rgba) → Opaque c → (k : ℕ) → Unit01 (part c k)
part_unit c o zero = o.red.unit
part_unit c o (suc zero) = o.green.unit
part_unit c o (suc (suc zero)) = o.blue.unit
part_unit c o (suc (suc (suc n))) = unit_same (back (opaque_value c.a o.alpha)) unit_one

-- a colour read from bytes has f32 components
colour_opaque : (bytes : List ℕ) → OpaqueColour (colour_of bytes) → Opaque (colour_of bytes)
unfolding pixel_at widened
colour_opaque bytes o = record {
  red = held_unit bytes 0 o.red;
  green = held_unit bytes 1 o.green;
  blue = held_unit bytes 2 o.blue;
  alpha = o.alpha;
}

-- ---- the policy that is shut out is the one with its code
abbrev clear : Policy → Bool
clear Policy.Edge = false
clear Policy.Background = false
clear Policy.Black = false
clear Policy.White = false
clear Policy.Gray = false
clear Policy.Transparent = true
clear Policy.Tile = false
clear Policy.Mirror = false
clear Policy.HorizontalTile = false
clear Policy.VerticalTile = false
clear Policy.HorizontalTileEdge = false
clear Policy.VerticalTileEdge = false
clear Policy.CheckerTile = false
clear Policy.Random = false

-- none of these is it, nor what stands after them
abbrev Firm : List Policy → Type 0
Firm [] = Unit {0}
Firm (x ∷ xs) = (clear x ≡ false) × Firm xs

firm_at : (xs : List Policy) → Firm xs → (n : ℕ) → clear (get_or xs n Policy.Random) ≡ false
firm_at [] f n = refl
firm_at (x ∷ xs) f zero = f.0
firm_at (x ∷ xs) f (suc n) = firm_at xs f.1 n

solid_code : (code : ℕ) → (code ≡ transparent_code → ⊥) → policy code ≡ Transparent → ⊥
unfolding policy
solid_code zero f e = false≢true (ap clear e)
solid_code (suc zero) f e = false≢true (ap clear e)
solid_code (suc (suc zero)) f e = false≢true (ap clear e)
solid_code (suc (suc (suc zero))) f e = false≢true (ap clear e)
solid_code (suc (suc (suc (suc zero)))) f e = false≢true (ap clear e)
solid_code (suc (suc (suc (suc (suc zero))))) f e = f refl
solid_code (suc (suc (suc (suc (suc (suc n)))))) f e =
    false≢true (sym (firm_at (drop 6 policies) (refl, (refl, (refl, (refl, (refl, (refl, (refl, (refl, tt)))))))) n)
    ∙ ap clear e)

-- ---- the plane
module _ (p : Image) (q : ExactImage) (n : ℕ) (F : Faithful p q n)
    (P : Picture p.bytes p.width p.height p.channels) (g : Given)
    (B : OpaqueColour (colour_of g.background)) (S : g.policy ≡ transparent_code → ⊥) where
  abbrev background : Rgba
  background = colour_of g.background

  abbrev named_colour : Tap → Rgba
  named_colour t = tap_samples p.bytes p.width p.channels background t

  pub opaque_place : OpaquePlace p.bytes p.width p.height p.channels g.policy background
  opaque_place = record {
    inside = opaque_picture p q n F P;
    around = colour_opaque g.background B;
    solid = solid_code g.policy S;
  }

  -- what is named, in both pictures
  own : (c : Rgba) (k : ℕ) → Within (value (component c k)) (part c k) (frac n 524288)
  own c k =
      subst (λ (x : Fraction). Within (value (component c k)) x (frac n 524288)) (part_value c k)
      (within_same (value (component c k)) (value (component c k)) (frac n 524288) (eq_refl (value (component c k)))
      (error_nonneg n))

  tap_near : (k : ℕ) → k < p.channels → (t : Tap) → Lies p.width p.height t
      → Within (value (component (named_colour t) k)) (tapped q background k t) (frac n 524288)
  tap_near k h (Tap.Pixel x y) l =
      subst (λ (z : Float). Within (value z) (q.sample x y k) (frac n 524288))
      (sym (pixel_sample p.bytes p.width x y p.channels F.colours k h))
      (F.near.samples x y k l.0 l.1 h).near
  tap_near k h Tap.Background l = own background k
  tap_near k h Tap.Black l = own (Colour.grey Colour.zero Colour.one) k
  tap_near k h Tap.White l = own (Colour.grey Colour.one Colour.one) k
  tap_near k h Tap.Gray l = own (Colour.grey Colour.half Colour.one) k
  tap_near k h Tap.Transparent l = own (Colour.grey Colour.zero Colour.zero) k

  tap_unit : (k : ℕ) → k < p.channels → (t : Tap) → Lies p.width p.height t → Opaque (named_colour t)
      → Unit01 (tapped q background k t)
  tap_unit k h (Tap.Pixel x y) l o = F.units x y k l.0 l.1 h
  tap_unit k h Tap.Background l o = part_unit background o k
  tap_unit k h Tap.Black l o = part_unit (Colour.grey Colour.zero Colour.one) o k
  tap_unit k h Tap.White l o = part_unit (Colour.grey Colour.one Colour.one) o k
  tap_unit k h Tap.Gray l o = part_unit (Colour.grey Colour.half Colour.one) o k
  tap_unit k h Tap.Transparent l o = part_unit (Colour.grey Colour.zero Colour.zero) o k

  tap_alpha : p.channels ≡ 4 → (t : Tap) → Lies p.width p.height t → Opaque (named_colour t)
      → tapped q background 3 t ≈ frac 1 1
  tap_alpha e (Tap.Pixel x y) l o = F.opaque e x y l.0 l.1
  tap_alpha e Tap.Background l o = opaque_value background.a o.alpha
  tap_alpha e Tap.Black l o = opaque_value Colour.one o.alpha
  tap_alpha e Tap.White l o = opaque_value Colour.one o.alpha
  tap_alpha e Tap.Gray l o = opaque_value Colour.one o.alpha
  tap_alpha e Tap.Transparent l o = opaque_value Colour.zero o.alpha

  -- at every index
  module _ (i j : ℤ) where
    abbrev here : Tap
    here = named g.policy p.width p.height i j

    lies : Lies p.width p.height here
    lies = named_lies p.width p.height P.sizes.wide P.sizes.high g.policy i j

    solid_here : Opaque (named_colour here)
    unfolding at
    solid_here = at_opaque p.bytes p.width p.height p.channels g.policy background opaque_place i j

    -- both have one size, so the policy names the same
    same : (k : ℕ) → tapped q background k here ≡ plane q g k i j
    unfolding plane
    same k = λ d. tapped q background k (named g.policy (F.near.width d) (F.near.height d) i j)

    pub plane_unit : (k : ℕ) → k < p.channels → Unit01 (plane q g k i j)
    plane_unit k h = subst Unit01 (same k) (tap_unit k h here lies solid_here)

    pub plane_alpha : p.channels ≡ 4 → plane q g 3 i j ≈ frac 1 1
    plane_alpha e = subst (λ (x : Fraction). x ≈ frac 1 1) (same 3) (tap_alpha e here lies solid_here)

    near_here : (k : ℕ) → k < p.channels
        → Within (value (component (at p.bytes p.width p.height p.channels g.policy background i j) k))
        (plane q g k i j) (frac n 524288)
    unfolding at
    near_here k h = subst (λ (x : Fraction). Within (value (component (named_colour here) k)) x (frac n 524288))
        (same k) (tap_near k h here lies)

  -- ---- in the sampler's words
  colour_lt : (k : ℕ) → k < 3 → k < p.channels
  colour_lt k h = ⊎_elim (λ (e : p.channels ≡ 3). go p.channels e) (λ (e : p.channels ≡ 4). go_4 p.channels e)
      F.colours
    where
      go : (c : ℕ) → c ≡ 3 → k < c
      go c e = omega arith

      go_4 : (c : ℕ) → c ≡ 4 → k < c
      go_4 c e = omega arith

  abbrev pub exact : Exact
  exact = record { red = plane q g 0; green = plane q g 1; blue = plane q g 2 }

  pub plane_units : UnitExact exact
  plane_units = record {
    red = λ (i j : ℤ). plane_unit i j 0 (colour_lt 0 (lit≤ tt));
    green = λ (i j : ℤ). plane_unit i j 1 (colour_lt 1 (lit≤ tt));
    blue = λ (i j : ℤ). plane_unit i j 2 (colour_lt 2 (lit≤ tt));
  }

  pub plane_near : NearExact (at p.bytes p.width p.height p.channels g.policy background) exact
      (frac n 524288)
  plane_near = record {
    red = λ (i j : ℤ). record { is = (opaque_at i j).red; near = near_here i j 0 (colour_lt 0 (lit≤ tt)) };
    green = λ (i j : ℤ). record { is = (opaque_at i j).green; near = near_here i j 1 (colour_lt 1 (lit≤ tt)) };
    blue = λ (i j : ℤ). record { is = (opaque_at i j).blue; near = near_here i j 2 (colour_lt 2 (lit≤ tt)) };
  }
    where
      opaque_at : (i j : ℤ) → Opaque (at p.bytes p.width p.height p.channels g.policy background i j)
      opaque_at = at_opaque p.bytes p.width p.height p.channels g.policy background opaque_place
