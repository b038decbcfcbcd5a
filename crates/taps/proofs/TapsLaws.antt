-- A list of sixteen has its function's value at each number below sixteen, so the sums over the list are those over the
-- square of taps, row by row. Provides: `sixteen_at`, `tap_at_law`; `square_small`, `side_small`, `number_small`; of the
-- sums: `started`, `grown` (one tap more), `row_done`, `none_lined`, `lined_next` (one row more), `finished`;
-- `four_taps`, `inside_taps` (four taps by name). Assumes nothing.
use mathlib.Core.Path.{◌≡◌, refl, sym, ap, ◌∙◌}
use mathlib.Core.List.{List, [], ◌∷◌}
use Prim.Native.Nat.{ℕ, zero, suc, ◌+◌, ◌*◌, ◌≤◌, ◌<◌, zero-le}
use native.Mathlib.Nat.{add-zero, add_assoc, zero-mul, mul-le-mul, le-add_right, le_antisymm, lt_of_lt_of_le}
use native.Mathlib.Omega.{arith}
use lib.Arith.{digits_lt, digits_div, digits_mod}
use lib.Dec.{lit≤}
use lib.ListN.{get_or}
use lib.IntN.{pos, ◌+ℤ◌}
use lib.Ieee.{Float, nan}
use Rattle.exact.specs.Loop.{up_to}
use Rattle.exact.proofs.Loop.{up_to_none, up_to_next, up_to_join}
use Rattle.picture.specs.At.{at}
use Rattle.taps.specs.Cell.{Cell}
use Rattle.picture.specs.Colour.{grey}
use Rattle.taps.specs.declared.interpolation.Interpolation.{Interpolation}
use Rattle.taps.specs.declared.interpolation.Interpolation.TheVariants.{
  Integer,
  Nearest,
  Average,
  Average9,
  Average16,
  Bilinear,
  Catrom,
  Spline,
  Background,
}
use Rattle.picture.specs.Pixel.{pixel_at}
use Rattle.taps.specs.Taps.{Plane, side, sixteen, tap, taps}
use Rattle.taps.specs.Weighted.{nothing, added, mean, tap_at, weight_at, tap_sums, lined, weighted}
use Rattle.taps.specs.Weights.{four_weights, weights}
use Rattle.picture.specs.declared.colour.Rgba.{Rgba}
use Rattle.taps.specs.declared.weighted.Sums.{Sums}
use Rattle.picture.proofs.AtLaws.{at_inside}
use Rattle.taps.proofs.WeightedOpaque.{summed_four}

pub sixteen_at : {A : Type 0} (f : ℕ → A) (d : A) (k : ℕ) → k < 16 → get_or (sixteen f) k d ≡ f k
sixteen_at f d zero h = refl
sixteen_at f d (suc zero) h = refl
sixteen_at f d (suc (suc zero)) h = refl
sixteen_at f d (suc (suc (suc zero))) h = refl
sixteen_at f d (suc (suc (suc (suc zero)))) h = refl
sixteen_at f d (suc (suc (suc (suc (suc zero))))) h = refl
sixteen_at f d (suc (suc (suc (suc (suc (suc zero)))))) h = refl
sixteen_at f d (suc (suc (suc (suc (suc (suc (suc zero))))))) h = refl
sixteen_at f d (suc (suc (suc (suc (suc (suc (suc (suc zero)))))))) h = refl
sixteen_at f d (suc (suc (suc (suc (suc (suc (suc (suc (suc zero))))))))) h = refl
sixteen_at f d (suc (suc (suc (suc (suc (suc (suc (suc (suc (suc zero)))))))))) h = refl
sixteen_at f d (suc (suc (suc (suc (suc (suc (suc (suc (suc (suc (suc zero))))))))))) h = refl
sixteen_at f d (suc (suc (suc (suc (suc (suc (suc (suc (suc (suc (suc (suc zero)))))))))))) h = refl
sixteen_at f d (suc (suc (suc (suc (suc (suc (suc (suc (suc (suc (suc (suc (suc zero))))))))))))) h = refl
sixteen_at f d (suc (suc (suc (suc (suc (suc (suc (suc (suc (suc (suc (suc (suc (suc zero)))))))))))))) h = refl
sixteen_at f d (suc (suc (suc (suc (suc (suc (suc (suc (suc (suc (suc (suc (suc (suc (suc zero))))))))))))))) h = refl
sixteen_at f d (suc (suc (suc (suc (suc (suc (suc (suc (suc (suc (suc (suc (suc (suc (suc (suc k)))))))))))))))) h =
    absurd (omega arith)

pub square_small : (n : ℕ) → n ≤ 4 → n * n ≤ 16
square_small n h = mul-le-mul h h

-- the tap numbered k of the list
pub tap_at_law : (plane : Plane) (c : Cell) (n k : ℕ) → k < 16 → tap_at (taps plane c n) k ≡ tap plane c n k
unfolding taps
tap_at_law plane c n k h = sixteen_at (tap plane c n) (grey nan nan) k h

pub number_small : (n j i : ℕ) → j < n → i < n → n ≤ 4 → j * n + i < 16
number_small n j i hj hi h = lt_of_lt_of_le (digits_lt hj hi) (square_small n h)

-- ---- the sums, row by row
module _ (plane : Plane) (c : Cell) (n : ℕ) (w : List Float) where
  abbrev pub step : ℕ → Sums → Sums
  step k = added (tap_at (taps plane c n) k) (weight_at w k)

  -- before the first of row j
  pub started : (j : ℕ) (start : Sums) → start ≡ up_to step (j * n) (j * n + 0) start
  started j start = up_to_none step (j * n) start ∙ ap (λ (k : ℕ). up_to step (j * n) k start) (sym (add-zero (j * n)))

  -- with the tap numbered i in row j
  pub grown : (j i : ℕ) (start : Sums) (p : Rgba) (s r : Sums) → j < n → i < n → n ≤ 4
      → p ≡ plane (c.column +ℤ pos i) (c.row +ℤ pos j) → s ≡ up_to step (j * n) (j * n + i) start
      → r ≡ added p (weight_at w (j * n + i)) s → r ≡ up_to step (j * n) (j * n + (i + 1)) start
  grown j i start p s r hj hi h e inv g =
      g
      ∙ ap (λ (q : Rgba). added q (weight_at w (j * n + i)) s) (e
      ∙ sym (tap_at_law plane c n (j * n + i) (number_small n j i hj hi h)
      ∙ (λ t. plane (c.column +ℤ pos (digits_mod j hi t)) (c.row +ℤ pos (digits_div j hi t)))))
      ∙ up_to_next step (j * n) start (j * n + i) (le-add_right (j * n) i) inv
      ∙ ap (λ (k : ℕ). up_to step (j * n) k start) (add_assoc (j * n) i 1)

  -- after its last
  pub row_done : (j i : ℕ) (start s : Sums) → i ≤ n → n ≤ i → s ≡ up_to step (j * n) (j * n + i) start
      → s ≡ lined (taps plane c n) w n j start
  row_done j i start s a b inv = inv ∙ ap (λ (k : ℕ). up_to step (j * n) (j * n + k) start) (le_antisymm a b)

  -- before the first row
  pub none_lined : nothing ≡ tap_sums (taps plane c n) w (0 * n)
  none_lined = up_to_none step 0 nothing ∙ ap (λ (k : ℕ). tap_sums (taps plane c n) w k) (sym (zero-mul n))

  -- with a whole row
  pub lined_next : (j : ℕ) (s r : Sums) → s ≡ tap_sums (taps plane c n) w (j * n) → r ≡ lined (taps plane c n) w n j s
      → r ≡ tap_sums (taps plane c n) w ((j + 1) * n)
  lined_next j s r inv g =
      g
      ∙ ap (λ (z : Sums). up_to step (j * n) (j * n + n) z) inv
      ∙ sym (up_to_join step 0 nothing (j * n) (j * n + n) zero-le (le-add_right (j * n) n))
      ∙ ap (λ (k : ℕ). tap_sums (taps plane c n) w k) (another j)
    where
      another : (j : ℕ) → j * n + n ≡ (j + 1) * n
      another j = omega arith

  -- and after the last row
  pub finished : (j : ℕ) (s : Sums) (r : Rgba) → j ≤ n → n ≤ j → s ≡ tap_sums (taps plane c n) w (j * n) → r ≡ mean s
      → r ≡ weighted (taps plane c n) w (n * n)
  unfolding weighted
  finished j s r a b inv g = g ∙ ap mean (inv ∙ ap (λ (i : ℕ). tap_sums (taps plane c n) w (i * n)) (le_antisymm a b))

-- ---- two by two: the list's four taps, in order
pub four_taps : (plane : Plane) (c : Cell) (tx ty : Float)
    → weighted (tap plane c 2 0 ∷ tap plane c 2 1 ∷ tap plane c 2 2 ∷ tap plane c 2 3 ∷ []) (four_weights tx ty) 4
    ≡ weighted (taps plane c 2) (weights Bilinear tx ty) 4
unfolding weighted taps
four_taps plane c tx ty =
    ap mean (summed_four (tap plane c 2 0 ∷ tap plane c 2 1 ∷ tap plane c 2 2 ∷ tap plane c 2 3 ∷ [])
    (four_weights tx ty)
    ∙ sym (summed_four (taps plane c 2) (weights Bilinear tx ty)))

-- inside, they are the picture's own pixels
module _ (bytes : List ℕ) (w h channels policy : ℕ) (background : Rgba) (x y : ℕ) (hx : x + 1 < w) (hy : y + 1 < h)
  where
    here : (a n : ℕ) → a + 1 < n → a + 0 < n
    here a n h = omega arith

    own : (i j : ℕ) → x + i < w → y + j < h
        → at bytes w h channels policy background (pos x +ℤ pos i) (pos y +ℤ pos j) ≡ pixel_at bytes w channels (x + i)
        (y + j)
    own i j p q = at_inside bytes w h channels policy background (x + i) (y + j) p q

    pub inside_taps : (tx ty : Float)
        → weighted (pixel_at bytes w channels x y ∷ pixel_at bytes w channels (x + 1) y
        ∷ pixel_at bytes w channels x (y + 1) ∷ pixel_at bytes w channels (x + 1) (y + 1) ∷ []) (four_weights tx ty) 4
        ≡ weighted (taps (at bytes w h channels policy background) (record { column = pos x; row = pos y }) 2)
        (weights Bilinear tx ty) 4
    inside_taps tx ty =
        let P : ℕ → ℕ → Rgba = pixel_at bytes w channels in
        let zero-x : x + 0 ≡ x = add-zero x in
        let zero-y : y + 0 ≡ y = add-zero y in
        sym (λ i. weighted ((own 0 0 (here x w hx) (here y h hy) ∙ λ j. P (zero-x j) (zero-y j)) i
        ∷ (own 1 0 hx (here y h hy) ∙ λ j. P (x + 1) (zero-y j)) i
        ∷ (own 0 1 (here x w hx) hy ∙ λ j. P (zero-x j) (y + 1)) i ∷ own 1 1 hx hy i ∷ []) (four_weights tx ty) 4)
        ∙ four_taps (at bytes w h channels policy background) (record { column = pos x; row = pos y }) tx ty

pub side_small : (i : Interpolation) → side i ≤ 4
side_small Integer = lit≤ tt
side_small Nearest = lit≤ tt
side_small Average = lit≤ tt
side_small Average9 = lit≤ tt
side_small Average16 = lit≤ tt
side_small Bilinear = lit≤ tt
side_small Catrom = lit≤ tt
side_small Spline = lit≤ tt
side_small Background = lit≤ tt
