-- Every list of calls whose warps are lent the chain's picture can be lived in one memory, and the words on sharing are
-- kept. So the demand of memory is no weaker than that of values, and empty only where that is. Assumes nothing.
use mathlib.Core.Path.{◌≡◌, refl, sym, ap, ap₂, ◌∙◌, subst, subst₂}
use mathlib.Core.Bool.{Bool, true, false, ◌&&◌, true≢false}
use mathlib.Core.List.{List, [], ◌∷◌, ◌++◌}
use Prim.Native.Nat.{ℕ, ◌+◌, ◌≤◌, ◌<◌}
use native.Mathlib.Omega.{arith}
use lib.ListN.{length}
use Rattle.exact.proofs.Booleans.{both}
use Rattle.distort.specs.Call.{left}
use Rattle.distort.specs.Job.{Image, Call}
use Rattle.chain.specs.Demand.{Lent}
use Rattle.exact.specs.Each.{Each}
use Rattle.chain.specs.Memory.{
  read,
  written,
  call_in,
  Event,
  Calls,
  Writes,
  Lies,
  Home,
  Nowhere,
  At,
  World,
  home_after,
  happens,
  lived,
}
use Rattle.chain.specs.Memory.{size, InBuffer, LentHome, KeptCall, AllKept}
use Rattle.chain.specs.Warps.{Warp, State, accepted, all_rows, step, run}
use Rattle.chain.proofs.Chain.{each_last}
use Rattle.chain.proofs.HomeLaws.{nowhere}
use Rattle.chain.proofs.LengthLaws.{keeps_length}
use Rattle.chain.proofs.ReadLaws.{read_length, written_elsewhere}
use Rattle.chain.proofs.Scenes.{placed, behind, said, scenes, end, found}
use Rattle.chain.proofs.TurnLaws.{Makes, Turn, is_refused, is_whole, is_joined, is_alone, turn, whole_makes}

-- ---- the picture ends before an address
abbrev Before : State → Home → ℕ → Type 0
Before s home f = (from : ℕ) → home ≡ At from → from + length s.image.bytes ≤ f

abbrev pub Free : World → ℕ → Type 0
Free w f = Before w.chain w.home f

buffer_by : (w : World) (P : ℕ → Type 0)
    → ((from : ℕ) → w.home ≡ At from → (a : ℕ) → from ≤ a → a < from + size w → P a) → InBuffer w w.home P
buffer_by w P h = go w.home refl
  where
    go : (home : Home) → w.home ≡ home → InBuffer w home P
    go Nowhere e = tt
    go (At from) e = h from e

-- ---- events that go well
pub record Goes (w : World) (es : List Event) (s : State) (f : ℕ) : Type 0 where
  pub kept : AllKept w es
  pub chain : (lived w es).chain ≡ s
  pub free : Free (lived w es) f

module _ {w : World} {es : List Event} {s : State} {n : ℕ} where
  pub write_goes : (f : ℕ) (bytes : List ℕ) → Free w f → Goes (happens w (Writes f bytes)) es s n
      → Goes w (Writes f bytes ∷ es) s n
  unfolding AllKept lived
  write_goes f bytes free g = record {
    kept = (
      buffer_by w (λ (b : ℕ). written w.memory f bytes b ≡ w.memory b)
          (λ from e a l u. written_elsewhere w.memory f bytes a (λ x y. omega (arith, free from e))),
      g.kept,
    );
    chain = g.chain;
    free = g.free;
  }

  pub lies_goes : (f : ℕ) → read w.memory f (size w) ≡ w.chain.image.bytes → Goes (happens w (Lies f)) es s n
      → Goes w (Lies f ∷ es) s n
  unfolding AllKept lived
  lies_goes f e g = record { kept = (e, g.kept); chain = g.chain; free = g.free }

-- ---- a call that finds c, with its band behind the picture
module _ (v : World) (f : ℕ) (c : Call) (is : call_in v.memory (placed f c) ≡ c)
    (free : Free v (f + length c.image.bytes)) (lent : accepted c ≡ true → all_rows c ≡ true
    → LentHome v (placed f c)) where
  abbrev d : Call
  d = call_in v.memory (placed f c)

  abbrev band : ℕ
  band = f + length c.image.bytes

  call_kept : KeptCall v (placed f c)
  call_kept = record {
    apart = λ e. buffer_by v (λ (b : ℕ). band ≤ b → b < band + length c.band → ⊥)
        (λ from q a l u x y. omega (arith, free from q));
    lent = λ e h. lent (sym (ap accepted is) ∙ e) (sym (ap all_rows is) ∙ h);
  }

  made : {t : State} {to : ℕ → Home → Home} → Makes v.chain d t to → Before t (to band v.home) (behind f c)
      → Before (step v.chain d) (home_after v.chain d band v.home) (behind f c)
  made k h = subst₂ (λ (s : State) (at : Home). Before s at (behind f c)) (sym k.chain)
      (sym (k.place band v.home)) h

  long : length (left d) ≡ length c.band
  long = keeps_length d ∙ read_length v.memory band (length c.band)

  still_free : Before v.chain v.home (behind f c)
  still_free from e = omega (arith, free from e)

  fresh : (from : ℕ) → At band ≡ At from → from + length (left d) ≤ behind f c
  fresh from e = let q : band ≡ from = cc in omega (arith, long)

  call_free : Free (happens v (Calls (placed f c))) (behind f c)
  unfolding happens
  call_free = by (turn v.chain d)
    where
      by : Turn v.chain d → Before (step v.chain d) (home_after v.chain d band v.home) (behind f c)
      by (is_refused e k) = made k still_free
      by (is_whole e h k) = made k fresh
      by (is_joined e h k) = made k (λ from q. absurd (nowhere q))
      by (is_alone e k) = made k still_free

  call_chain : (happens v (Calls (placed f c))).chain ≡ step v.chain c
  unfolding happens
  call_chain = ap (step v.chain) is

  call_goes : {es : List Event} {s : State} {n : ℕ} → Goes (happens v (Calls (placed f c))) es s n
      → Goes v (Calls (placed f c) ∷ es) s n
  unfolding AllKept lived
  call_goes g = record { kept = (call_kept, g.kept); chain = g.chain; free = g.free }

-- ---- what is said of the warps at the end is said of those before, and of a call's own
step_each : (P : Warp → Type 0) (s : State) (c : Call) → Each P (step s c).warps → Each P s.warps
step_each P s c h = by (turn s c)
  where
    back : {t : State} {to : ℕ → Home → Home} → Makes s c t to → Each P t.warps
    back k = subst (λ (t : State). Each P t.warps) k.chain h

    by : Turn s c → Each P s.warps
    by (is_refused e k) = back k
    by (is_whole e f k) = (each_last P s.warps _ (back k)).0
    by (is_joined e f k) = (each_last P s.warps _ (back k)).0
    by (is_alone e k) = back k

run_each : (P : Warp → Type 0) (s : State) (cs : List Call) → Each P (run s cs).warps → Each P s.warps
unfolding run
run_each P s [] h = h
run_each P s (c ∷ cs) h = step_each P s c (run_each P (step s c) cs h)

whole_lent : (s : State) (c : Call) → accepted c ≡ true → all_rows c ≡ true → Each Lent (step s c).warps
    → c.image ≡ s.image
whole_lent s c e f h = (each_last Lent s.warps _
    (subst (λ (t : State). Each Lent t.warps) (whole_makes s c e f).chain h)).1

-- ---- one call's events, then the list's
module _ (w : World) (f : ℕ) (c : Call) (es : List Event) (s : State) (n : ℕ) (free : Free w f)
    (lent : Each Lent (step w.chain c).warps)
    (more : (u : World) → u.chain ≡ step w.chain c → Free u (behind f c) → Goes u es s n) where
  abbrev v : World
  v = happens w (Writes f (c.image.bytes ++ c.band))

  -- a whole warp, where it is said
  whole_goes : accepted c ≡ true → all_rows c ≡ true → Goes v (Lies f ∷ (Calls (placed f c) ∷ es)) s n
  unfolding happens
  whole_goes e h =
      let same : c.image ≡ w.chain.image = whole_lent w.chain c e h lent in
      let long : size w ≡ length c.image.bytes = ap (λ (p : Image). length p.bytes) (sym same) in
      let there : read v.memory f (size w) ≡ w.chain.image.bytes =
      ap (read v.memory f) long ∙ ap (λ (d : Call). d.image.bytes) (found w.memory f c)
      ∙ ap (λ (p : Image). p.bytes) same in
      let u : World = happens v (Lies f) in
      let before : Free u (f + length c.image.bytes) = λ from q. let z : f ≡ from = cc in omega arith in
      let at : LentHome u (placed f c) = record {
        place = refl;
        bytes = sym long;
        width = ap (λ (p : Image). p.width) same;
        height = ap (λ (p : Image). p.height) same;
        channels = ap (λ (p : Image). p.channels) same;
      } in
      lies_goes f there
      (call_goes u f c (found w.memory f c) before (λ e h. at)
      (more _ (call_chain u f c (found w.memory f c) before (λ e h. at))
      (call_free u f c (found w.memory f c) before (λ e h. at))))

  other_goes : (accepted c ≡ true → all_rows c ≡ true → ⊥) → Goes v (Calls (placed f c) ∷ es) s n
  unfolding happens
  other_goes not =
      let before : Free v (f + length c.image.bytes) = λ from q. omega (arith, free from q) in
      let at : accepted c ≡ true → all_rows c ≡ true → LentHome v (placed f c) = λ e h. absurd (not e h) in
      call_goes v f c (found w.memory f c) before at
      (more _ (call_chain v f c (found w.memory f c) before at) (call_free v f c (found w.memory f c) before at))

  one_goes : Goes w (Writes f (c.image.bytes ++ c.band)
      ∷ said (accepted c && all_rows c) f (Calls (placed f c) ∷ es)) s n
  one_goes = write_goes f (c.image.bytes ++ c.band) free (by (accepted c && all_rows c) refl)
    where
      by : (t : Bool) → (accepted c && all_rows c) ≡ t → Goes v (said t f (Calls (placed f c) ∷ es)) s n
      by true e = let b = both (accepted c) (all_rows c) e in whole_goes b.0 b.1
      by false e = other_goes (λ a r. true≢false (sym (ap₂ ◌&&◌ a r) ∙ e))

pub all_goes : (cs : List Call) (w : World) (f : ℕ) → Free w f → Each Lent (run w.chain cs).warps
    → Goes w (scenes f cs) (run w.chain cs) (end f cs)
unfolding scenes end run lived AllKept
all_goes [] w f free lent = record { kept = tt; chain = refl; free = free }
all_goes (c ∷ cs) w f free lent =
    one_goes w f c (scenes (behind f c) cs) (run (step w.chain c) cs) (end (behind f c) cs) free
    (run_each Lent (step w.chain c) cs lent)
    (λ u e before. subst (λ (s : State). Goes u (scenes (behind f c) cs) (run s cs) (end (behind f c) cs)) e
    (all_goes cs u (behind f c) before (subst (λ (s : State). Each Lent (run s cs).warps) (sym e) lent)))
