-- Where a window comes out, its sides are from 1 to 4,096 and its offsets at most 1,048,576 either way: each side is
-- tested last, wherever it comes from. Assumes nothing.
use Rattle.std.proofs.Common.{ℕ, ◌<◌, ◌≤◌, Bool, true, false, cond, ◌&&◌, T, ltb, leb, ℤ, pos, ◌-ℤ◌, nat_abs, ltb→lt, leb→le}
use lib.Ieee.{Float, binary64, of_int}
use lib.Ieee.Scale.{finite}
use Rattle.exact.specs.Double.{◌⊕◌, ◌⊖◌}
use Rattle.number.specs.Floor.{floorℤ}
use Rattle.exact.specs.Vector.{Vector}
use Rattle.mappings.specs.declared.mapping.Kind.{Kind}
use Rattle.window.specs.declared.edges.Edges.{Edges}
use Rattle.window.specs.declared.extent.Extent.{Extent}
use Rattle.std.specs.Prelude.{Option, Some, None}
use Rattle.window.specs.declared.view.View.{View}
use Rattle.window.specs.declared.view.Window as Declared
use Rattle.window.specs.Placed.{Placed, Window, Refused}
use Rattle.window.specs.Bestfit.{bestfit}
use Rattle.window.specs.Ceil.{ceilℤ}
use Rattle.window.specs.Extent.{half, side, good_offset, good_length, held, at_least_one, from_to, extent_of}
use Rattle.window.specs.Window.{of_extents, given, given_or, judged, window}

-- ---- a side
pub record Side (from : ℤ) (length : ℕ) : Type 0 where
  pub some : 0 < length
  pub most : length ≤ 4096
  pub near : nat_abs from ≤ 1048576

abbrev Sides : Option Extent → Type 0
Sides (Some e) = Side e.from e.length
Sides None = Unit {0}

held_side : (z : ℤ) (n : ℕ) → Sides (held z n)
unfolding held good_offset good_length
held_side z n = go (leb (nat_abs z) 1048576) (ltb 0 n) (leb n 4096) (leb→le (nat_abs z) 1048576) (ltb→lt 0 n)
    (leb→le n 4096)
  where
    go : (a b c : Bool) → (T a → nat_abs z ≤ 1048576) → (T b → 0 < n) → (T c → n ≤ 4096)
        → Sides (cond (a && (b && c)) (Some (side z n)) None)
    go true true true f g h = record { some = g tt; most = h tt; near = f tt }
    go true true false f g h = tt
    go true false c f g h = tt
    go false b c f g h = tt

fitted_side : (low high : Float) → Sides (extent_of low high)
unfolding extent_of from_to
fitted_side low high = go (finite low && finite high)
  where
    go : (b : Bool) → Sides (cond b
        (held (floorℤ (low ⊖ half)) (at_least_one (ceilℤ (high ⊕ half) -ℤ floorℤ (low ⊖ half)))) None)
    go true = held_side (floorℤ (low ⊖ half)) (at_least_one (ceilℤ (high ⊕ half) -ℤ floorℤ (low ⊖ half)))
    go false = tt

-- ---- the window
abbrev pub Limits : Placed → Type 0
Limits (Window width height x y) = Side x width × Side y height
Limits Refused = Unit {0}

joined_limits : (a d : Option Extent) → Sides a → Sides d → Limits (of_extents a d)
unfolding of_extents
joined_limits (Some a) (Some d) p q = (p, q)
joined_limits (Some a) None p q = tt
joined_limits None d p q = tt

given_limits : (w h : ℕ) (x y : ℤ) → Limits (given w h x y)
given_limits w h x y = joined_limits (held x w) (held y h) (held_side x w) (held_side y h)

judged_limits : (f : Option Edges) (w h : ℕ) → Limits (judged f w h)
unfolding judged
judged_limits (Some e) w h =
    joined_limits (extent_of e.x0 e.x1) (extent_of e.y0 e.y1) (fitted_side e.x0 e.x1)
    (fitted_side e.y0 e.y1)
judged_limits None w h = given_limits w h (pos 0) (pos 0)

pub window_limits : (kind : Kind) (coef : Vector) (width height : ℕ) (view : View)
    → Limits (window kind coef width height view)
unfolding window
window_limits kind coef width height view = go view.viewport view.bestfit
  where
    go : (v : Option Declared.Window) (b : Bool) → Limits
        (given_or v
        (cond b (judged (bestfit kind coef (of_int binary64 (pos width)) (of_int binary64 (pos height))) width height)
        (given width height (pos 0) (pos 0))))
    go (Some w) b = given_limits w.width w.height w.x w.y
    go None true = judged_limits (bestfit kind coef (of_int binary64 (pos width)) (of_int binary64 (pos height)))
        width height
    go None false = given_limits width height (pos 0) (pos 0)
