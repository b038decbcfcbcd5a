-- Where the tests of sides, channels and length fail, the sizes are a picture's and its samples are few enough to
-- count; where the test of the samples fails, too, the bytes are a picture. Provides: `side_fit`, `channels_fit`,
-- `channels_range`, `size_fit`, `stock_whole` (what each test leaves); `area_small`, `samples_small`, `counted`
-- (the products); `picture_fit`, `pixel_picture`, `one_pixel`. Assumes nothing.
use mathlib.Core.Path.{◌≡◌}
use mathlib.Core.Logic.{inl, inr, ⊎_elim}
use mathlib.Core.Bool.{false, ◌||◌}
use mathlib.Core.List.{List}
use Prim.Native.Nat.{ℕ, ◌*◌, ◌≤◌, ◌<◌}
use native.Mathlib.Nat.{mul-le-mul}
use native.Mathlib.Omega.{arith}
use lib.Dec.{eqb, ltb, lit≤}
use lib.ListN.{length}
use borrow.Author.Tests.{eqb-true, eqb-false, ltb-false, not-false}
use Rattle.exact.specs.Loop.{up_to}
use Rattle.exact.proofs.Booleans.{or_false, one_of}
use Rattle.picture.specs.Pixel.{Sizes, Picture, Channels, Inside}
use Rattle.picture.specs.Size.{bad_side, bad_channels, bad_size, bad_stock}
use Rattle.picture.proofs.LimitedLaws.{step, limited_by}

-- ---- the sizes
pub side_fit : (n : ℕ) → bad_side n ≡ false → (0 < n) × (n ≤ 4096)
unfolding bad_side
side_fit n h = let t = or_false (eqb n 0) (ltb 4096 n) h in (above n (eqb-false n 0 t.0), ltb-false 4096 n t.1)
  where
    above : (n : ℕ) → (n ≡ 0 → ⊥) → 0 < n
    above n k = omega arith

pub channels_fit : (n : ℕ) → bad_channels n ≡ false → Channels n
unfolding bad_channels
channels_fit n h =
    ⊎_elim (λ e. inl (eqb-true n 1 e))
    (λ t. inr (⊎_elim (λ e. inl (eqb-true n 3 e)) (λ e. inr (eqb-true n 4 e)) (one_of (eqb n 3) (eqb n 4) t)))
    (one_of (eqb n 1) (eqb n 3 || eqb n 4) (not-false (eqb n 1 || (eqb n 3 || eqb n 4)) h))

pub channels_range : (n : ℕ) → Channels n → (0 < n) × (n ≤ 4)
channels_range n = ⊎_elim (is 1 (lit≤ tt) (lit≤ tt)) (⊎_elim (is 3 (lit≤ tt) (lit≤ tt)) (is 4 (lit≤ tt) (lit≤ tt)))
  where
    is : (k : ℕ) → 0 < k → k ≤ 4 → n ≡ k → (0 < n) × (n ≤ 4)
    is k a b e = (omega arith, omega arith)

pub record Sized (width height channels : ℕ) : Type 0 where
  pub sizes : Sizes width height
  pub channels_known : Channels channels

pub size_fit : (width height channels : ℕ) → bad_size width height channels ≡ false → Sized width height channels
unfolding bad_size
size_fit width height channels h =
    let t = or_false (bad_side width) (bad_side height || bad_channels channels) h in
    let u = or_false (bad_side height) (bad_channels channels) t.1 in
    let across = side_fit width t.0 in
    let down = side_fit height u.0 in
    record {
      sizes = record { wide = across.0; width_most = across.1; high = down.0; height_most = down.1 };
      channels_known = channels_fit channels u.1;
    }

-- ---- the products
pub area_small : (w h : ℕ) → w ≤ 4096 → h ≤ 4096 → w * h ≤ 16777216
area_small w h a b = mul-le-mul a b

pub samples_small : (w h c : ℕ) → w ≤ 4096 → h ≤ 4096 → c ≤ 4 → w * h * c ≤ 67108864
samples_small w h c a b d = mul-le-mul (area_small w h a b) d

-- the two products of a picture of these sizes
pub counted : (w h c : ℕ) → bad_size w h c ≡ false → (w * h ≤ 16777216) × (w * h * c ≤ 67108864)
counted w h c f =
    let s = size_fit w h c f in (
      area_small w h s.sizes.width_most s.sizes.height_most,
      samples_small w h c s.sizes.width_most s.sizes.height_most (channels_range c s.channels_known).1,
    )

-- ---- the bytes
pub stock_whole : (bytes : List ℕ) (w h c : ℕ) → bad_stock bytes w h c ≡ false → length bytes ≡ w * h * c * 4
unfolding bad_stock
stock_whole bytes w h c g =
    eqb-true (length bytes) (w * h * c * 4) (not-false (eqb (length bytes) (w * h * c * 4)) g)

pub picture_fit : (bytes : List ℕ) (w h c : ℕ) → bad_size w h c ≡ false → bad_stock bytes w h c ≡ false
    → up_to (step bytes) 0 (w * h * c) false ≡ false → Picture bytes w h c
picture_fit bytes w h c f g fine =
    let s = size_fit w h c f in
    let r = channels_range c s.channels_known in
    record {
      sizes = s.sizes;
      channels_least = r.0;
      channels_most = r.1;
      whole = stock_whole bytes w h c g;
      limited = limited_by bytes (w * h * c) (stock_whole bytes w h c g) fine;
    }

-- a background or a matte is a picture of one pixel
pub pixel_picture : (bytes : List ℕ) → length bytes ≡ 16 → up_to (step bytes) 0 4 false ≡ false → Picture bytes 1 1 4
pixel_picture bytes e fine = record {
  sizes = record { wide = lit≤ tt; width_most = lit≤ tt; high = lit≤ tt; height_most = lit≤ tt };
  channels_least = lit≤ tt;
  channels_most = lit≤ tt;
  whole = e;
  limited = limited_by bytes 4 e fine;
}

pub one_pixel : (bytes : List ℕ) → length bytes ≡ 16 → up_to (step bytes) 0 4 false ≡ false → Inside bytes 1 4 0 0
one_pixel bytes e fine =
    record { height = 1; picture = pixel_picture bytes e fine; column = lit≤ tt; row = lit≤ tt }
