-- A call whose mapping and window are known, case by case: what each way out of the code is to the definition, over any
-- values that the code found equal to it. Assumes nothing.
use mathlib.Core.Path.{◌≡◌, sym, ap, ◌∙◌, subst}
use mathlib.Core.Bool.{Bool, true, false, not, cond}
use mathlib.Core.List.{List}
use Prim.Native.Nat.{ℕ, ◌+◌, ◌*◌, ◌≤◌}
use lib.Dec.{eqb, ltb}
use lib.IntN.{ℤ}
use lib.ListN.{length}
use borrow.Author.Tests.{ltb-false, eqb-true, not-false}
use Rattle.exact.specs.Vector.{Vector}
use Rattle.window.specs.Window.{window, refusal_of}
use Rattle.window.specs.Placed.{Placed}
use Rattle.window.specs.Placed.{Window}
use Rattle.window.proofs.WindowLaws.{Side, Limits, window_limits}
use Rattle.distort.specs.Answer.{Answer}
use Rattle.distort.specs.Answer.{Accepted, Refused}
use Rattle.band.specs.Band.{Mapped, Source, mapped, rows_bytes, rows_matte_pixels}
use Rattle.band.specs.declared.rows.Rows.{Rows}
use Rattle.mappings.specs.declared.mapping.Kind.{Kind}
use Rattle.mappings.specs.declared.mapping.Mapping.{Mapping}
use Rattle.picture.specs.declared.shape.Shape.{Shape}
use Rattle.window.specs.declared.view.View.{View}
use Rattle.distort.specs.Placed.{in_window, windowed}

-- ---- rows and band
pub rows_fit : (height first rows : ℕ) {t : Bool} → t ≡ ltb height (first + rows) → t ≡ false → first + rows ≤ height
rows_fit height first rows e h = ltb-false height (first + rows) (sym e ∙ h)

pub band_fit : (n k : ℕ) {t : Bool} → t ≡ not (eqb n k) → t ≡ false → n ≡ k
band_fit n k e h = eqb-true n k (not-false (eqb n k) (sym e ∙ h))

module _ (s : Source) (f : Mapped) (out : Shape) (rows : Rows) (band : List ℕ) where
  -- the two tests
  abbrev rows_out_law : Bool
  rows_out_law = ltb out.height (rows.first + rows.count)

  abbrev band_out : Bool
  band_out = not (eqb (length band) (rows.count * out.width * out.channels * 4))

  -- what they leave of the definition
  abbrev accepted : Answer × List ℕ
  accepted = (
    Accepted out.width out.height f.x f.y out.channels
        (rows_matte_pixels f out.width rows.first rows.count),
    rows_bytes s f out.channels out.width rows.first rows.count,
  )

  abbrev after : Bool → Bool → Answer × List ℕ
  after t u = cond t (Refused 10, band) (cond u (Refused 11, band) accepted)

  tested : {t u : Bool} → t ≡ rows_out_law → u ≡ band_out → after t u ≡ in_window s f out rows band
  unfolding in_window
  tested e g i = after (e i) (g i)

  pub rows_out : {t : Bool} → t ≡ rows_out_law → t ≡ true
      → ◌≡◌ {A = Answer × List ℕ} (Refused 10, band) (in_window s f out rows band)
  rows_out e h = ap (λ (b : Bool). after b band_out) (sym h) ∙ tested e (λ i. band_out)

  module _ {t u : Bool} (e : t ≡ rows_out_law) (h : t ≡ false) (g : u ≡ band_out) where
    pub band_out_law : u ≡ true → ◌≡◌ {A = Answer × List ℕ} (Refused 11, band) (in_window s f out rows band)
    band_out_law k = (λ i. after (sym h i) (sym k i)) ∙ tested e g

    pub both_in : u ≡ false → accepted ≡ in_window s f out rows band
    both_in k = (λ i. after (sym h i) (sym k i)) ∙ tested e g

    -- the rows worked
    pub worked : u ≡ false → {x y : ℤ} {m : ℕ} {written : List ℕ} → x ≡ f.x → y ≡ f.y
        → m ≡ rows_matte_pixels f out.width rows.first rows.count
        → written ≡ rows_bytes s f out.channels out.width rows.first rows.count
        → ◌≡◌ {A = Answer × List ℕ} (Accepted out.width out.height x y out.channels m, written)
        (in_window s f out rows band)
    worked k ex ey em eo =
        (λ i. (Accepted out.width out.height (ex i) (ey i) out.channels (em i), eo i)) ∙ both_in k

-- ---- the window
pub limits_of : (kind : Kind) (coef : Vector) (width height : ℕ) (view : View) {w h : ℕ} {x y : ℤ}
    → Window w h x y ≡ window kind coef width height view → Side x w × Side y h
limits_of kind coef width height view e =
    subst (λ (p : Placed). Limits p) (sym e) (window_limits kind coef width height view)

module _ (s : Source) (m : Mapping) (channels : ℕ) (rows : Rows) (band : List ℕ) where
  -- the offset as the code hands it on
  pub found : {q : Placed} {w h : ℕ} {x y a b : ℤ} {done : Answer × List ℕ} → Window w h x y ≡ q → a ≡ x → b ≡ y
      → done ≡ in_window s (mapped m a b) (record { width = w; height = h; channels = channels }) rows band
      → done ≡ windowed q s m channels rows band
  unfolding windowed
  found {w = w} {h = h} e f g k =
      k
      ∙ (λ i. in_window s (mapped m (f i) (g i)) (record { width = w; height = h; channels = channels }) rows band)
      ∙ ap (λ (p : Placed). windowed p s m channels rows band) e

  pub not_found : {q : Placed} {n : ℕ} → Placed.Refused ≡ q → n ≡ refusal_of q
      → ◌≡◌ {A = Answer × List ℕ} (Refused n, band) (windowed q s m channels rows band)
  unfolding windowed
  not_found e k =
      ap (λ (n : ℕ). (Refused n, band)) (k ∙ ap refusal_of (sym e))
      ∙ ap (λ (p : Placed). windowed p s m channels rows band) e
