-- What an accepted job and an accepted call are: no row of the table holds, and each test that fails says something of
-- the picture, the codes, the arguments, the colours, the fit, the window, the rows and the band. Assumes nothing.
use mathlib.Core.Path.{◌≡◌, refl, sym, ◌∙◌}
use mathlib.Core.Logic.{◌⊎◌, inr, ⊎_elim}
use mathlib.Core.Bool.{Bool, true, false, not, ◌||◌, cond, true≢false}
use mathlib.Core.List.{[], ◌∷◌}
use Prim.Native.Nat.{ℕ, zero, suc, ◌+◌, ◌*◌, ◌≤◌, ◌<◌}
use native.Mathlib.Omega.{arith}
use lib.Dec.{eqb, ltb, lit≤}
use lib.ListN.{length, take}
use lib.Ieee.{lt}
use borrow.Author.Tests.{eqb-true, eqb-false, ltb-false, not-false}
use Rattle.exact.specs.Fraction.{frac}
use Rattle.exact.specs.Table.{first_of}
use Rattle.exact.proofs.Booleans.{or_false}
use Rattle.exact.proofs.TableLaws.{row_passed, row_failed, no_rows, Numbered, first_part, second_part}
use Rattle.arguments.specs.Method.{present}
use Rattle.arguments.specs.Refusal as Arguments
use Rattle.arguments.proofs.AcceptedLaws.{Accepted, accepted}
use Rattle.fit.proofs.DegenerateLaws.{build_8}
use Rattle.window.specs.Window.{refusal_of, width_of, height_of, x_of, y_of}
use Rattle.window.specs.Placed.{Placed}
use Rattle.window.specs.Placed.{Window, Refused}
use Rattle.window.proofs.WindowLaws.{Side, Limits, window_limits}
use Rattle.policies.specs.Named.{transparent_code}
use Rattle.picture.specs.Colour.{one}
use Rattle.picture.specs.Pixel.{Picture, Channels}
use Rattle.picture.proofs.SizeLaws.{size_fit, picture_fit}
use Rattle.sampler.specs.Finite.{BoundedPicture}
use Rattle.taps.specs.Weighted.{BoundedBy}
use Rattle.picture.specs.declared.colour.Rgba.{Rgba}
use Rattle.distort.specs.Job.{Image, Given, Call, colour_of}
use Rattle.distort.specs.Refusal.{
  fit_of,
  view_of,
  window_of,
  widest,
  out_channels,
  bad_size,
  bad_stock,
  bad_code,
  large,
  bad_number,
  degenerate,
  bad_window,
  bad_rows,
  bad_tray,
  of_job,
  unfit,
  job_refusal,
  refusal,
}
use Rattle.distort.specs.Call.{out_width, out_height}
use Rattle.distort.proofs.LargeLaws.{all_bounded, colour_bounded}

-- ---- rows 1 to 7
pub record Passed (p : Image) (g : Given) : Type 0 where
  pub size : bad_size p.width p.height p.channels ≡ false
  pub stock : bad_stock p.bytes p.width p.height p.channels ≡ false
  pub code : bad_code g.method g.policy g.interpolation ≡ false
  pub count : Arguments.bad_count g.method g.arguments ≡ false
  pub number : bad_number p g.arguments g.background g.matte ≡ false
  pub order : Arguments.bad_order g.method g.arguments ≡ false
  pub few : Arguments.few_pairs g.method g.arguments ≡ false

module _ (p : Image) (g : Given) where
  pub unfit_passed : unfit p g ≡ 0 → Passed p g
  unfolding unfit
  unfit_passed e =
      let r1 = row_failed 0 (bad_size p.width p.height p.channels) _ e in
      let r2 = row_failed 1 (bad_stock p.bytes p.width p.height p.channels) _ r1.1 in
      let r3 = row_failed 2 (bad_code g.method g.policy g.interpolation) _ r2.1 in
      let r4 = row_failed 3 (Arguments.bad_count g.method g.arguments) _ r3.1 in
      let r5 = row_failed 4 (bad_number p g.arguments g.background g.matte) _ r4.1 in
      let r6 = row_failed 5 (Arguments.bad_order g.method g.arguments) _ r5.1 in
      let r7 = row_failed 6 (Arguments.few_pairs g.method g.arguments) _ r6.1 in
      record { size = r1.0; stock = r2.0; code = r3.0; count = r4.0; number = r5.0; order = r6.0; few = r7.0 }

  module _ (t : Passed p g) where
    pub codes : (not (present g.method) ≡ false) × ((g.policy ≤ 13) × (g.interpolation ≤ 8))
    unfolding bad_code
    codes =
        let a = or_false (not (present g.method)) (ltb 13 g.policy || ltb 8 g.interpolation) t.code in
        let b = or_false (ltb 13 g.policy) (ltb 8 g.interpolation) a.1 in
        (a.0, (ltb-false 13 g.policy b.0, ltb-false 8 g.interpolation b.1))

    -- the four tests of refusal 5
    pub record Small : Type 0 where
      pub arguments : Arguments.bad_argument g.arguments ≡ false
      pub samples : large p.bytes (p.width * p.height * p.channels) ≡ false
      pub background : large g.background 4 ≡ false
      pub matte : large g.matte 4 ≡ false

    pub small : Small
    unfolding bad_number
    small =
        let m : Bool = large g.matte 4 in
        let b : Bool = large g.background 4 in
        let s : Bool = large p.bytes (p.width * p.height * p.channels) in
        let x = or_false (Arguments.bad_argument g.arguments) (s || (b || m)) t.number in
        let y = or_false s (b || m) x.1 in
        let z = or_false b m y.1 in
        record { arguments = x.0; samples = y.0; background = z.0; matte = z.1 }

    pub picture_passed : Picture p.bytes p.width p.height p.channels
    unfolding large
    picture_passed =
        picture_fit p.bytes p.width p.height p.channels t.size t.stock small.samples

    -- so that none of the refusals of the arguments applies
    pub arguments_passed : Arguments.arguments_refusal g.method g.arguments ≡ 0
    unfolding Arguments.arguments_refusal
    arguments_passed =
        sym
        (row_passed 3 _ _ codes.0
        (row_passed 4 _ _ t.count
        (row_passed 5 _ _ small.arguments
        (row_passed 6 _ _ t.order
        (row_passed 7 _ _ t.few no_rows)))))

    -- and the fit has a mapping, or refusal 8
    pub fit_8 : ((fit_of p g).refusal ≡ 0) ⊎ ((fit_of p g).refusal ≡ 8)
    unfolding fit_of
    fit_8 = (build_8 g.method g.arguments p.width p.height arguments_passed).number

-- ---- the window
placed_sides : (w : Placed) → Limits w → eqb (refusal_of w) 9 ≡ false
    → (w ≡ Window (width_of w) (height_of w) (x_of w) (y_of w)) × (Side (x_of w) (width_of w) × Side (y_of w) (height_of w))
placed_sides (Window width height x y) l e = (refl, l)
placed_sides Refused l e = absurd (true≢false e)

pub limits : (p : Image) (g : Given) → Limits (window_of p g)
unfolding window_of
limits p g =
    window_limits (fit_of p g).mapping.kind (fit_of p g).mapping.coef p.width p.height (view_of g)

pub widest_known : (channels policy : ℕ) (background : Rgba) → Channels channels
    → Channels (widest channels policy background)
unfolding widest
widest_known channels policy background h = go
    (eqb channels 4 || (eqb policy transparent_code || lt background.a one))
  where
    go : (b : Bool) → Channels (cond b 4 channels)
    go true = inr (inr refl)
    go false = h

-- ---- an accepted job
pub record AcceptedJob (p : Image) (g : Given) : Type 0 where
  pub channels : Channels p.channels
  pub picture : BoundedPicture p.bytes p.width p.height p.channels
  pub policy : g.policy ≤ 13
  pub interpolation : g.interpolation ≤ 8
  pub arguments : Accepted g.method g.arguments
  pub background : BoundedBy (frac 65536 1) (colour_of g.background)
  pub matte : BoundedBy (frac 65536 1) (colour_of g.matte)
  pub mapped : (fit_of p g).refusal ≡ 0
  pub placed : window_of p g ≡ Window (out_width p g) (out_height p g) (x_of (window_of p g)) (y_of (window_of p g))
  pub across : Side (x_of (window_of p g)) (out_width p g)
  pub down : Side (y_of (window_of p g)) (out_height p g)
  pub out_channels_law : Channels (out_channels p g)

module _ (p : Image) (g : Given) where
  -- the numbers of the rows of a job
  numbered_7 : Numbered (take 7 (of_job p g []))
  numbered_7 = (lit≤ tt, (lit≤ tt, (lit≤ tt, (lit≤ tt, (lit≤ tt, (lit≤ tt, (lit≤ tt, tt)))))))

  numbered : Numbered (of_job p g [])
  numbered = (lit≤ tt, (lit≤ tt, (lit≤ tt, (lit≤ tt, (lit≤ tt, (lit≤ tt, (lit≤ tt, (lit≤ tt, (lit≤ tt, tt)))))))))

  -- where one of the rows 1 to 7 holds it is the job's, and else 8 and 9 are left
  pub unfit_job : (n : ℕ) → 0 < n → unfit p g ≡ n → job_refusal p g ≡ n
  unfolding unfit job_refusal
  unfit_job n h e = first_part (take 7 (of_job p g [])) ((8, degenerate p g) ∷ ((9, bad_window p g) ∷ [])) n h e

  pub fit_job : unfit p g ≡ 0 → job_refusal p g ≡ first_of ((8, degenerate p g) ∷ ((9, bad_window p g) ∷ []))
  unfolding unfit job_refusal
  fit_job e = second_part (take 7 (of_job p g [])) ((8, degenerate p g) ∷ ((9, bad_window p g) ∷ [])) numbered_7 e

  fit_of_job : job_refusal p g ≡ 0 → unfit p g ≡ 0
  fit_of_job e = go (unfit p g) refl
    where
      go : (n : ℕ) → unfit p g ≡ n → n ≡ 0
      go zero q = refl
      go (suc n) q = sym (unfit_job (suc n) (omega arith) q) ∙ e

  pub accepted_job : job_refusal p g ≡ 0 → AcceptedJob p g
  unfolding degenerate bad_window
  accepted_job e =
      let f = fit_of_job e in
      let t = unfit_passed p g f in
      let s = small p g t in
      let r8 = row_failed 7 (degenerate p g) _ (sym (fit_job f) ∙ e) in
      let r9 = row_failed 8 (bad_window p g) _ r8.1 in
      let w = placed_sides (window_of p g) (limits p g) r9.0 in
      let known = (size_fit p.width p.height p.channels t.size).channels_known in
      record {
        channels = known;
        picture = record {
          picture = picture_passed p g t;
          samples = all_bounded p.bytes (p.width * p.height * p.channels) s.samples;
        };
        policy = (codes p g t).1.0;
        interpolation = (codes p g t).1.1;
        arguments = accepted g.method g.arguments (arguments_passed p g t);
        background = colour_bounded g.background s.background;
        matte = colour_bounded g.matte s.matte;
        mapped = ⊎_elim (λ z. z) (λ z. absurd (eqb-false (fit_of p g).refusal 8 r8.0 z)) (fit_8 p g t);
        placed = w.0;
        across = w.1.0;
        down = w.1.1;
        out_channels_law = widest_known p.channels g.policy (colour_of g.background) known;
      }

-- ---- an accepted call
pub record AcceptedCall (c : Call) : Type 0 where
  pub job : AcceptedJob c.image c.given
  pub rows : c.first + c.rows ≤ out_height c.image c.given
  pub band : length c.band ≡ c.rows * out_width c.image c.given * out_channels c.image c.given * 4

module _ (c : Call) where
  -- where one of the rows 1 to 9 holds it is the call's, and else 10 and 11 are left
  pub job_call : (n : ℕ) → 0 < n → job_refusal c.image c.given ≡ n → refusal c ≡ n
  unfolding job_refusal refusal
  job_call n h e = first_part (of_job c.image c.given []) ((10, bad_rows c) ∷ ((11, bad_tray c) ∷ [])) n h e

  pub rows_call : job_refusal c.image c.given ≡ 0 → refusal c ≡ first_of ((10, bad_rows c) ∷ ((11, bad_tray c) ∷ []))
  unfolding job_refusal refusal
  rows_call e = second_part (of_job c.image c.given []) ((10, bad_rows c) ∷ ((11, bad_tray c) ∷ []))
      (numbered c.image c.given) e

  pub job_of_call : refusal c ≡ 0 → job_refusal c.image c.given ≡ 0
  job_of_call e = go (job_refusal c.image c.given) refl
    where
      go : (n : ℕ) → job_refusal c.image c.given ≡ n → n ≡ 0
      go zero q = refl
      go (suc n) q = sym (job_call (suc n) (omega arith) q) ∙ e

  pub accepted_call : refusal c ≡ 0 → AcceptedCall c
  unfolding bad_rows bad_tray
  accepted_call e =
      let j = job_of_call e in
      let r10 = row_failed 9 (bad_rows c) _ (sym (rows_call j) ∙ e) in
      let r11 = row_failed 10 (bad_tray c) _ r10.1 in
      record {
        job = accepted_job c.image c.given j;
        rows = ltb-false _ _ r10.0;
        band = eqb-true _ _ (not-false _ r11.0);
      }
