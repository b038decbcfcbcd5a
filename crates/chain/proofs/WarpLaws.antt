-- One whole warp: each sample of the new picture is a component of a pixel that is near the new exact one, so a
-- faithful picture is followed by a faithful one, with one warp more. Provides: `answer_of`, `warp_of`, `warp_faithful`.
-- Assumes nothing.
use mathlib.Core.Path.{◌≡◌, refl, sym, ap, ◌∙◌, subst}
use mathlib.Core.List.{List}
use mathlib.Core.Logic.{◌⊎◌}
use Prim.Native.Nat.{ℕ, ◌+◌, ◌*◌, ◌≤◌, ◌<◌}
use native.Mathlib.Nat.{zero-add, mul_comm}
use native.Mathlib.Omega.{arith}
use lib.Ieee.{Float}
use Rattle.exact.specs.Fraction.{frac}
use Rattle.exact.specs.Weighted.{Unit32, Sample}
use Rattle.endian.specs.Bytes.{sample_at}
use Rattle.picture.specs.Colour.{one}
use Rattle.picture.specs.Pixel.{Picture}
use Rattle.picture.specs.declared.colour.Rgba.{Rgba}
use Rattle.window.specs.Window.{x_of, y_of}
use Rattle.band.specs.Band.{colour_at}
use Rattle.distort.specs.Call.{out_width, out_height, mapped_of, source_of, rows_of}
use Rattle.distort.specs.Job.{Image, Given}
use Rattle.distort.specs.Refusal.{window_of, out_channels}
use Rattle.distort.specs.Answer.{Answer}
use Rattle.distort.specs.Answer.{Accepted}
use Rattle.distort.proofs.AcceptedLaws.{AcceptedJob}
use Rattle.distort.proofs.BandLaws.{rows_length}
use Rattle.distort.proofs.BandSamples.{sample_at_law}
use Rattle.distort.proofs.SampleLaws.{part as component}
use Rattle.chain.specs.Demand.{InUnit, Conditions, NearSample}
use Rattle.chain.specs.Exact.{ExactImage, place, exact_warp, warped_sample}
use Rattle.chain.specs.Warps.{pictured, Warp}
use Rattle.chain.proofs.Faithful.{Faithful}
use Rattle.chain.proofs.PixelLaws.{channels_kept, pixel_near, pixel_alpha, exact_in, exact_alpha}

unit_of : {x : Float} → Unit32 x → InUnit x
unit_of u = record { number = u.number; unit = u.unit }

-- the answer of an accepted call, whose band has so many matte pixels
abbrev pub answer_of : Image → Given → ℕ → Answer
answer_of p g count = Accepted (out_width p g) (out_height p g) (x_of (window_of p g)) (y_of (window_of p g)) (out_channels p g)
    count

-- a warp that is lent the chain's picture
abbrev pub warp_of : Image → Given → ℕ → Warp
warp_of p g count = record { given = g; answered = answer_of p g count; lent = p; chain = p }

module _ (p : Image) (g : Given) (count : ℕ) (J : AcceptedJob p g) (C : Conditions (warp_of p g count)) (q : ExactImage)
    (n : ℕ) (F : Faithful p q n) where
  abbrev A : Answer
  A = answer_of p g count

  abbrev W : ℕ
  W = out_width p g

  abbrev H : ℕ
  H = out_height p g

  abbrev D : ℕ
  D = out_channels p g

  abbrev bytes : List ℕ
  bytes = rows_of p g 0 H

  P : Picture p.bytes p.width p.height p.channels
  P = J.picture.picture

  -- ---- the channels
  same_channels : D ≡ p.channels
  same_channels = channels_kept p g F.colours C.policy C.background

  own : (k : ℕ) → k < D → k < p.channels
  own k h = subst (λ (c : ℕ). k < c) same_channels h

  colours : (D ≡ 3) ⊎ (D ≡ 4)
  colours = subst (λ (c : ℕ). (c ≡ 3) ⊎ (c ≡ 4)) (sym same_channels) F.colours

  -- ---- the pixel at column i and row j
  module _ (i j : ℕ) (hi : i < W) (hj : j < H) where
    abbrev it : Rgba
    it = colour_at (source_of p g) (mapped_of p g) i j

    less : (i m : ℕ) → i < m → m ≤ 4096 → i ≤ 4096
    less i m a b = omega arith

    shown_near : (k : ℕ) → k < D → Sample (component it k) (warped_sample q g A i j k) (frac (n + 1) 524288)
    shown_near k hk =
        pixel_near p q n F P g C.background C.policy i j count C.interpolation (less i W hi J.across.most)
        (less j H hj J.down.most) J.across.near J.down.near (C.pixels i j hi hj) k (own k hk)

    shown_alpha : it.a ≡ one
    shown_alpha =
        pixel_alpha p q n F P g C.background C.policy i j count C.interpolation
        (less i W hi J.across.most) (less j H hj J.down.most) J.across.near J.down.near
        (C.pixels i j hi hj)

    -- it is what the bytes hold there
    read : (k : ℕ) → k < D → sample_at bytes (place W D i j k) ≡ component it k
    read k hk = sample_at_law p g P 0 H i j hi hj colours k hk
        ∙ ap (λ (r : ℕ). component (colour_at (source_of p g) (mapped_of p g) i r) k) (zero-add j)

    near_sample : (k : ℕ) → k < D → NearSample (pictured A bytes) (exact_warp q g A) (n + 1) i j k
    near_sample k hk =
        let s : Sample (sample_at bytes (place W D i j k)) (warped_sample q g A i j k) (frac (n + 1) 524288) =
        subst (λ (x : Float). Sample x (warped_sample q g A i j k) (frac (n + 1) 524288)) (sym (read k hk))
        (shown_near k hk) in
        record { is = unit_of s.is; near = s.near }

    alpha_read : D ≡ 4 → sample_at bytes (place W D i j 3) ≡ one
    alpha_read e = read 3 (four D e) ∙ shown_alpha
      where
        four : (d : ℕ) → d ≡ 4 → 3 < d
        four d e = omega arith

  -- ---- the picture
  pub warp_faithful : Faithful (pictured A bytes) (exact_warp q g A) (n + 1)
  warp_faithful = record {
    near = record {
      width = refl;
      height = refl;
      channels = same_channels ∙ F.near.channels;
      whole = rows_length p g 0 H ∙ ap (λ (z : ℕ). z * D * 4) (mul_comm H W);
      samples = λ (i j k : ℕ) hi hj hk. near_sample i j hi hj k hk;
      alphas = λ e (i j : ℕ) hi hj. alpha_read i j hi hj e;
    };
    colours = colours;
    units = λ (i j k : ℕ) hi hj hk. exact_in p q n F P g C.background C.policy i j count k (own k hk);
    opaque = λ e (i j : ℕ) hi hj. exact_alpha p q n F P g C.background C.policy i j count (sym same_channels ∙ e);
  }
