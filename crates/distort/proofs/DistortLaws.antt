-- The call stage by stage: refused by the tests that need no fit, by the fit, or worked in its window; over any values
-- that the code found equal to the definition's. Assumes nothing.
use mathlib.Core.Path.{◌≡◌, refl, sym, ap, ◌∙◌, subst⁻¹}
use mathlib.Core.Logic.{⊎_elim}
use mathlib.Core.List.{List, [], ◌∷◌}
use Prim.Native.Nat.{ℕ, ◌<◌}
use native.Mathlib.Omega.{arith}
use lib.Dec.{eqb, lit≤}
use lib.ListN.{length}
use borrow.Author.Tests.{eq-eqb, ne_eqb}
use Rattle.exact.specs.Table.{first_of}
use Rattle.exact.proofs.TableLaws.{row_holds, row_passed, no_rows}
use Rattle.fit.specs.Build.{build}
use Rattle.mappings.specs.Mapping.{Fitted, refused}
use Rattle.mappings.specs.declared.mapping.Mapping.{Mapping}
use Rattle.window.specs.Window.{window, refusal_of, width_of, height_of, x_of, y_of}
use Rattle.window.specs.Placed.{Placed}
use Rattle.window.specs.Placed.{Window}
use Rattle.picture.specs.Pixel.{Picture, Inside, Channels}
use Rattle.picture.proofs.SizeLaws.{size_fit, one_pixel}
use Rattle.picture.specs.declared.colour.Rgba.{Rgba}
use Rattle.distort.specs.Answer.{Answer}
use Rattle.distort.specs.Answer.{Refused}
use Rattle.distort.specs.Call.{source_of, answer, left}
use Rattle.band.specs.Band.{Source, mapped}
use Rattle.band.specs.declared.rows.Rows.{Rows}
use Rattle.window.specs.declared.view.View.{View}
use Rattle.distort.specs.Job.{Image, Given, Call, colour_of}
use Rattle.distort.specs.Placed.{in_window, windowed}
use Rattle.distort.specs.Refusal.{fit_of, view_of, window_of, widest, out_channels, degenerate, bad_window, large, unfit, job_refusal}
use Rattle.distort.proofs.AcceptedLaws.{
  Passed,
  unfit_passed,
  codes,
  small,
  picture_passed,
  fit_8,
  widest_known,
  unfit_job,
  fit_job,
  job_call,
}
use Rattle.distort.proofs.CallLaws.{done, refused_answer, placed_answer}

above : (n : ℕ) → (n ≡ 0 → ⊥) → 0 < n
above n h = omega arith

module _ (c : Call) where
  abbrev p : Image
  p = c.image

  abbrev g : Given
  g = c.given

  abbrev m : Mapping
  m = (fit_of c.image c.given).mapping

  -- the rows that it asks for, and the picture with two colours
  abbrev asked : Rows
  asked = record { first = c.first; count = c.rows }

  abbrev looked_at : Image → ℕ → ℕ → Rgba → Rgba → Source
  looked_at image policy interpolation background matte = record {
    image = image;
    policy = policy;
    interpolation = interpolation;
    background = background;
    matte = matte;
  }

  abbrev Done : Answer → List ℕ → Type 0
  Done r out = (r ≡ answer c) × (out ≡ left c)

  -- both at once
  parts : {r : Answer} {out : List ℕ} → ◌≡◌ {A = Answer × List ℕ} (r, out) (done c) → Done r out
  parts e = (ap (λ (q : Answer × List ℕ). q.0) e, ap (λ (q : Answer × List ℕ). q.1) e)

  refused_by : (n : ℕ) → 0 < n → job_refusal p g ≡ n → Done (Refused n) c.band
  refused_by n h e = parts (refused_answer c n h (job_call c n h e))

  module _ {number : ℕ} (tests : number ≡ unfit p g) where
    -- ---- 1 to 7
    pub by_tests : (number ≡ 0 → ⊥) → Done (Refused number) c.band
    by_tests h = refused_by number (above number h) (unfit_job p g number (above number h) (sym tests))

    module _ (none : number ≡ 0) where
      passes : unfit p g ≡ 0
      passes = sym tests ∙ none

      passed : Passed p g
      passed = unfit_passed p g passes

      pub picture_known : Picture p.bytes p.width p.height p.channels
      picture_known = picture_passed p g passed

      -- the background and the matte
      pub background_known : length g.background ≡ 16 → Inside g.background 1 4 0 0
      unfolding large
      background_known e = one_pixel g.background e (small p g passed).background

      pub matte_known : length g.matte ≡ 16 → Inside g.matte 1 4 0 0
      unfolding large
      matte_known e = one_pixel g.matte e (small p g passed).matte

      -- the codes passed, so none is refused
      pub policy_known : 13 < g.policy → ⊥
      policy_known h = let k = (codes p g passed).1.0 in omega (arith, h, k)

      pub interpolation_known : 8 < g.interpolation → ⊥
      interpolation_known h = let k = (codes p g passed).1.1 in omega (arith, h, k)

      pub channels_known : {n : ℕ} (background : Rgba) → n ≡ widest p.channels g.policy background
          → Channels n
      channels_known background e =
          subst⁻¹ Channels e
          (widest_known p.channels g.policy background
          (size_fit p.width p.height p.channels passed.size).channels_known)

      module _ {f : Fitted} (fits : f ≡ build g.method g.arguments p.width p.height) where
        fitted : f ≡ fit_of p g
        unfolding fit_of
        fitted = fits

        -- ---- 8
        pub by_fit : (f.refusal ≡ 0 → ⊥) → Done (Refused f.refusal) c.band
        unfolding degenerate
        by_fit h =
            let e = ap (λ (x : Fitted). x.refusal) fitted in
            let eight : (fit_of p g).refusal ≡ 8 = ⊎_elim (λ q. absurd (h (e ∙ q))) (λ q. q) (fit_8 p g passed) in
            subst⁻¹ (λ (n : ℕ). Done (Refused n) c.band) (e ∙ eight)
            (refused_by 8 (lit≤ tt) (fit_job p g passes ∙ sym (row_holds 8 _ _ (eq-eqb _ _ eight))))

        module _ (maps : f.refusal ≡ 0) where
          -- past 8, what is left of the job's table is 9
          window_left : job_refusal p g ≡ first_of ((9, bad_window p g) ∷ [])
          unfolding degenerate
          window_left =
              fit_job p g passes
              ∙ sym (row_passed 8 _ _ (ne_eqb _ _ (λ q. eight (sym (ap (λ (x : Fitted). x.refusal) fitted) ∙ maps) q))
              refl)
            where
              eight : {n : ℕ} → n ≡ 0 → n ≡ 8 → ⊥
              eight a b = omega arith

          -- ---- 9, and the window
          at_window : windowed (window_of p g) (source_of p g) m (out_channels p g) asked c.band ≡ done c
          unfolding windowed bad_window
          at_window = go (window_of p g) refl
            where
              go : (w : Placed) → window_of p g ≡ w
                  → windowed w (source_of p g) m (out_channels p g) asked c.band ≡ done c
              go (Window w h x y) e =
                  (λ i. in_window (source_of p g) (mapped m (x_of (sym e i)) (y_of (sym e i)))
                  (record { width = width_of (sym e i); height = height_of (sym e i); channels = out_channels p g }) asked
                  c.band)
                  ∙ placed_answer c (window_left
                  ∙ sym (row_passed 9 _ _ (ap (λ (q : Placed). eqb (refusal_of q) 9) e) no_rows))
              go Placed.Refused e =
                  refused_answer c 9 (lit≤ tt)
                  (job_call c 9 (lit≤ tt) (window_left
                  ∙ sym (row_holds 9 _ _ (ap (λ (q : Placed). eqb (refusal_of q) 9) e))))

          pub by_window : (view : View) {image : Image} {policy interpolation : ℕ} {background matte : Rgba} {channels : ℕ} {r : Answer}
              {out : List ℕ}
              → window f.mapping.kind f.mapping.coef p.width p.height view
              ≡ window f.mapping.kind f.mapping.coef p.width p.height (view_of g)
              → image ≡ p → policy ≡ g.policy → interpolation ≡ g.interpolation → background ≡ colour_of g.background → matte ≡ colour_of g.matte
              → channels ≡ widest p.channels g.policy background
              → ◌≡◌ {A = Answer × List ℕ} (r, out)
              (windowed (window f.mapping.kind f.mapping.coef image.width image.height view)
              (looked_at image policy interpolation background matte) f.mapping channels asked c.band)
              → Done r out
          unfolding window_of
          by_window view {image} {policy} {interpolation} {background} {matte} {channels} seen eo ep ei eg em ec e =
              let wide = ec ∙ ap (widest p.channels g.policy) eg in
              parts
              (e
              ∙ (λ i. windowed (window f.mapping.kind f.mapping.coef (eo i).width (eo i).height view)
              (looked_at (eo i) policy interpolation background matte) f.mapping channels asked c.band)
              ∙ ap (λ (q : Placed). windowed q (looked_at p policy interpolation background matte) f.mapping channels asked
              c.band) seen
              ∙ (λ i. windowed (window (fitted i).mapping.kind (fitted i).mapping.coef p.width p.height
              (view_of g)) (looked_at p (ep i) (ei i) (eg i) (em i)) (fitted i).mapping (wide i) asked c.band)
              ∙ at_window)

-- by a refusal that the code gives
pub fit_refused : (c : Call) {number n : ℕ} (tests : number ≡ unfit c.image c.given) → number ≡ 0
    → refused n ≡ build c.given.method c.given.arguments c.image.width c.image.height → (n ≡ 0 → ⊥)
    → Done c (Refused n) c.band
unfolding refused
fit_refused c tests none e h = by_fit c tests none e h
