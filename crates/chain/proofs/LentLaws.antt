-- Every warp is lent the chain's picture: a whole one reads it where it lies whole, and bands join only where their
-- picture has its very bytes and size. Assumes nothing.
use mathlib.Core.Path.{◌≡◌, sym, ap, ◌∙◌, subst}
use mathlib.Core.Bool.{true}
use mathlib.Core.List.{List, [], ◌∷◌, ◌++◌}
use Prim.Native.Nat.{ℕ}
use Rattle.exact.proofs.Booleans.{both}
use Rattle.distort.specs.Call.{answer}
use Rattle.distort.specs.Job.{Call}
use Rattle.chain.specs.Warps.{Warp, State, same_image, every_row, height_in, group, completes, step}
use Rattle.chain.specs.Demand.{Lent}
use Rattle.exact.specs.Each.{Each}
use Rattle.chain.specs.Memory.{
  read,
  Asked,
  call_in,
  Event,
  Calls,
  Writes,
  Lies,
  Home,
  World,
  happens,
  lived,
  LentHome,
  KeptCall,
  Kept,
  AllKept,
}
use Rattle.chain.proofs.HomeLaws.{AtHome, kept_home}
use Rattle.chain.proofs.SameLaws.{image_same}
use Rattle.chain.proofs.TurnLaws.{Makes, Turn, is_refused, is_whole, is_joined, is_alone, turn}

-- ---- one warp more
pub each_more : (P : Warp → Type 0) (ws : List Warp) (w : Warp) → Each P ws → P w → Each P (ws ++ (w ∷ []))
each_more P [] w each p = (p, tt)
each_more P (v ∷ ws) w each p = (each.0, each_more P ws w each.1 p)

-- ---- what a warp is lent
home_lent : (w : World) (a : Asked) → LentHome w a → AtHome w → (call_in w.memory a).image ≡ w.chain.image
home_lent w a l home = λ i. record {
  bytes = (ap (read w.memory a.picture) l.bytes ∙ home a.picture l.place) i;
  width = l.width i;
  height = l.height i;
  channels = l.channels i;
}

joined_lent : (s : State) (c : Call) → completes s c ≡ true → c.image ≡ s.image
unfolding completes
joined_lent s c e = image_same c.image s.image
    (both (same_image c.image s.image) (every_row (height_in (answer c)) (group s c)) e).0

-- ---- a call, an event, all of them
call_lent : (w : World) (a : Asked) → KeptCall w a → AtHome w → Each Lent w.chain.warps
    → Each Lent (happens w (Calls a)).chain.warps
unfolding happens
call_lent w a kept home lent = by (turn w.chain c)
  where
    c : Call
    c = call_in w.memory a

    made : {t : State} {to : ℕ → Home → Home} → Makes w.chain c t to → Each Lent t.warps
        → Each Lent (step w.chain c).warps
    made k h = subst (λ (s : State). Each Lent s.warps) (sym k.chain) h

    more : (v : Warp) → Lent v → Each Lent (w.chain.warps ++ (v ∷ []))
    more v l = each_more Lent w.chain.warps v lent l

    by : Turn w.chain c → Each Lent (step w.chain c).warps
    by (is_refused e k) = made k lent
    by (is_whole e f k) = made k (more _ (home_lent w a (kept.lent e f) home))
    by (is_joined e f k) = made k (more _ (joined_lent w.chain c f))
    by (is_alone e k) = made k lent

kept_lent : (w : World) (e : Event) → Kept w e → AtHome w → Each Lent w.chain.warps
    → Each Lent (happens w e).chain.warps
unfolding happens
kept_lent w (Calls a) kept home lent = call_lent w a kept home lent
kept_lent w (Writes from bytes) kept home lent = lent
kept_lent w (Lies from) kept home lent = lent

pub all_lent : (w : World) (events : List Event) → AllKept w events → AtHome w → Each Lent w.chain.warps
    → Each Lent (lived w events).chain.warps
unfolding AllKept lived
all_lent w [] kept home lent = lent
all_lent w (e ∷ es) kept home lent =
    all_lent (happens w e) es kept.1 (kept_home w e kept.0 home) (kept_lent w e kept.0 home lent)
