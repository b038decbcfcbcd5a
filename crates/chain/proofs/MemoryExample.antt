-- The worked list, lived in one memory: the premises of the demand of memory all hold, of true calls. The first picture
-- lies at 0, the first warp writes at 100, the bands all come out of twelve bytes at 200, the host puts their rows
-- together at 300, and the last warp writes over the first picture. The refused call's band lies over the first
-- picture, too, and what has been read is written over. Assumes nothing.
use mathlib.Core.Path.{◌≡◌, refl, sym, ap, ◌∙◌, subst, subst⁻¹}
use mathlib.Core.Logic.{inl, inr}
use mathlib.Core.Bool.{true≢false}
use mathlib.Core.List.{List, [], ◌∷◌, ◌++◌}
use Prim.Native.Nat.{ℕ}
use lib.Dec.{lit≤}
use lib.IntN.{pos}
use lib.ListN.{length}
use Rattle.distort.specs.Call.{left}
use Rattle.distort.specs.Job.{Image, Call}
use Rattle.chain.specs.Demand.{Conditions, Near}
use Rattle.exact.specs.Each.{Each}
use Rattle.chain.specs.Exact.{exactly, exact_chain}
use Rattle.chain.specs.Memory.{
  Memory,
  read,
  among,
  written,
  Asked,
  call_in,
  Event,
  Calls,
  Writes,
  Lies,
  Home,
  Nowhere,
  At,
  World,
  home_after,
  happens,
  lived,
  KeptCall,
  Kept,
  AllKept,
  born,
  lying,
}
use Rattle.chain.specs.Warps.{
  same_bytes,
  same_whole,
  same_image,
  same_given,
  alike,
  accepted,
  all_rows,
  holds,
  any_holds,
  every_row,
  row_in,
  alike_to,
  row_size,
  together,
  completes,
  step,
  Warp,
  State,
}
use Rattle.chain.proofs.ApartLaws.{asking, apart_by, write_by}
use Rattle.chain.proofs.Example.{p1, p2, p3, shifted, tilted, spread, warps, conditions}
use Rattle.chain.proofs.MemoryLaws.{memory_demand}
use Rattle.chain.proofs.Opened.{opened}
use Rattle.chain.proofs.Small.{low, p0, first, made, asks, row}
use Rattle.chain.proofs.ReadLaws.{read_back}
use Rattle.chain.proofs.RefusedLaws.{refused_changes_nothing}

-- ---- going from world to world
record Went (w : World) (es : List Event) (to : World) : Type 0 where
  kept : AllKept w es
  is : lived w es ≡ to

arrived : {w : World} → Went w [] w
unfolding AllKept lived
arrived = record { kept = tt; is = refl }

on : {w v to : World} {es : List Event} (e : Event) → Kept w e → happens w e ≡ v → Went v es to → Went w (e ∷ es) to
unfolding AllKept lived
on {es = es} e k q g = record {
  kept = (k, subst⁻¹ (λ (u : World). AllKept u es) q g.kept);
  is = ap (λ (u : World). lived u es) q ∙ g.is;
}

-- a call that finds c, leaves these bytes and makes the machine s
calls_on : (w : World) (a : Asked) (c : Call) (bytes : List ℕ) (s : State) (home : Home) → call_in w.memory a ≡ c
    → left c ≡ bytes → step w.chain c ≡ s
    → home_after w.chain c a.band w.home ≡ home
    → happens w (Calls a) ≡ record { memory = written w.memory a.band bytes; chain = s; home = home }
unfolding happens
calls_on w a c bytes s home found leaves makes lies = λ i. record {
  memory = written w.memory a.band ((ap left found ∙ leaves) i);
  chain = (ap (step w.chain) found ∙ makes) i;
  home = (ap (λ (d : Call). home_after w.chain d a.band w.home) found ∙ lies) i;
}

-- ---- the calls
abbrev bad : Image
bad = record { bytes = []; width = 0; height = 2; channels = 3 }

abbrev over : Asked
over = asking 0 0 bad shifted 0 2 0 24

abbrev one : Asked
one = asking 0 24 p0 shifted 0 2 100 24

abbrev upper : Asked
upper = asking 100 24 p1 tilted 0 1 200 12

abbrev stray : Asked
stray = asking 0 24 p0 tilted 1 1 200 12

abbrev lower : Asked
lower = asking 100 24 p1 tilted 1 1 200 12

abbrev three : Asked
three = asking 300 24 p2 spread 0 2 0 24

-- the upper row of the second warp
abbrev up : List ℕ
up = 0x25 ∷ 0x49 ∷ 0x12 ∷ 0x3d ∷ 0xb8 ∷ 0x6d ∷ 0xfb ∷ 0x3e ∷ 0x6e ∷ 0xdb ∷ 0x76 ∷ 0x3f ∷ []

-- ---- the calls by what they find, and the worlds between the events
abbrev c1 : Call
c1 = asks p0 shifted 0 2 (row ++ row)

abbrev c2 : Call
c2 = asks p1 tilted 0 1 row

abbrev c3 : Call
c3 = asks p0 tilted 1 1 up

abbrev c4 : Call
c4 = asks p1 tilted 1 1 (left c3)

abbrev c5 : Call
c5 = asks p2 spread 0 2 p0.bytes

abbrev world : Memory → Image → List Call → List Warp → Home → World
world m p waiting warps home =
    record { memory = m; chain = record { image = p; waiting = waiting; warps = warps }; home = home }

abbrev m0 : Memory
m0 = written (λ (a : ℕ). 0) 0 p0.bytes

abbrev m1 : Memory
m1 = written m0 100 p1.bytes

abbrev m2 : Memory
m2 = written (written m1 200 up) 300 up

abbrev m3 : Memory
m3 = written m2 200 (left c3)

abbrev m4 : Memory
m4 = written (written (written m3 200 low) 312 low) 100 row

abbrev m5 : Memory
m5 = written m4 0 p3.bytes

abbrev warps1 : List Warp
warps1 = made shifted p0 (pos 0) ∷ []

abbrev warps2 : List Warp
warps2 = made shifted p0 (pos 0) ∷ made tilted p1 (pos 0) ∷ []

abbrev w0 : World
w0 = born m0 p0 0

abbrev w1 : World
w1 = world m1 p1 [] warps1 (At 100)

abbrev w2 : World
w2 = world (written m1 200 up) p1 (c2 ∷ []) warps1 (At 100)

abbrev w3 : World
w3 = world m3 p1 (c2 ∷ c3 ∷ []) warps1 (At 100)

abbrev w4 : World
w4 = world (written m3 200 low) p2 [] warps2 Nowhere

abbrev w5 : World
w5 = world m5 p3 [] warps (At 0)

-- ---- each call worked out
went0 : happens w0 (Calls over) ≡ w0
unfolding opened accepted read written among
went0 = refused_changes_nothing w0 over refl

went1 : happens w0 (Calls one) ≡ w1
unfolding opened accepted all_rows step home_after read written among
went1 = calls_on w0 one c1 p1.bytes w1.chain (At 100) refl refl refl refl

went2 : happens w1 (Calls upper) ≡ w2
unfolding opened same_bytes same_whole same_image same_given alike accepted all_rows holds any_holds every_row alike_to
    completes step home_after read written among
went2 = calls_on w1 upper c2 up w2.chain (At 100) refl refl refl refl

went3 : happens (world m2 p1 (c2 ∷ []) warps1 (At 100)) (Calls stray) ≡ w3
unfolding opened same_bytes same_whole same_image same_given alike accepted all_rows holds any_holds every_row alike_to
    completes step home_after read written among
went3 = calls_on (world m2 p1 (c2 ∷ []) warps1 (At 100)) stray c3 (left c3) w3.chain (At 100) refl refl refl refl

went4 : happens w3 (Calls lower) ≡ w4
unfolding opened same_bytes same_whole same_image same_given alike accepted all_rows holds any_holds every_row row_in alike_to
    row_size together completes step home_after read written among
went4 = calls_on w3 lower c4 low w4.chain Nowhere refl refl refl refl

went5 : happens (world m4 p2 [] warps2 (At 300)) (Calls three) ≡ w5
unfolding opened accepted all_rows step home_after read written among
went5 = calls_on (world m4 p2 [] warps2 (At 300)) three c5 p3.bytes w5.chain (At 0) refl refl refl refl

-- ---- the words on sharing, at each event
kept0 : KeptCall w0 over
unfolding opened accepted read written among
kept0 = record { apart = λ e. absurd (true≢false (sym e)); lent = λ e. absurd (true≢false (sym e)) }

-- lent the chain's picture where it lies
kept1 : KeptCall w0 one
kept1 = record {
  apart = λ e. apart_by w0 one 0 refl (inr (lit≤ tt));
  lent = λ e f. record { place = refl; bytes = refl; width = refl; height = refl; channels = refl };
}

kept2 : KeptCall w1 upper
kept2 = record {
  apart = λ e. apart_by w1 upper 100 refl (inr (lit≤ tt));
  lent = λ e f. record { place = refl; bytes = refl; width = refl; height = refl; channels = refl };
}

-- lent another, for fewer rows
kept3 : KeptCall (world m2 p1 (c2 ∷ []) warps1 (At 100)) stray
unfolding opened all_rows read written among
kept3 = record {
  apart = λ e. apart_by (world m2 p1 (c2 ∷ []) warps1 (At 100)) stray 100 refl (inr (lit≤ tt));
  lent = λ e f. absurd (true≢false (sym f));
}

kept4 : KeptCall w3 lower
kept4 = record {
  apart = λ e. apart_by w3 lower 100 refl (inr (lit≤ tt));
  lent = λ e f. record { place = refl; bytes = refl; width = refl; height = refl; channels = refl };
}

lies : read m4 300 24 ≡ p2.bytes
unfolding opened read written among
lies = refl

kept5 : KeptCall (world m4 p2 [] warps2 (At 300)) three
kept5 = record {
  apart = λ e. apart_by (world m4 p2 [] warps2 (At 300)) three 300 refl (inl (lit≤ tt));
  lent = λ e f. record { place = refl; bytes = refl; width = refl; height = refl; channels = refl };
}

-- ---- all of it
abbrev pub events : List Event
events =
    Calls over
    ∷ Calls one
    ∷ Calls upper
    ∷ Writes 300 up
    ∷ Calls stray
    ∷ Calls lower
    ∷ Writes 312 low
    ∷ Writes 100 row
    ∷ Lies 300
    ∷ Calls three
    ∷ Writes 300 row
    ∷ []

abbrev w6 : World
w6 = world (written m5 300 row) p3 [] warps (At 0)

went : Went w0 events w6
unfolding happens
went =
    on (Calls over) kept0 went0
    (on (Calls one) kept1 went1
    (on (Calls upper) kept2 went2
    (on (Writes 300 up) (write_by w2 300 up 100 refl (inr (lit≤ tt))) refl
    (on (Calls stray) kept3 went3
    (on (Calls lower) kept4 went4
    (on (Writes 312 low) tt refl
    (on (Writes 100 row) tt refl
    (on (Lies 300) lies refl
    (on (Calls three) kept5 went5
    (on (Writes 300 row) (write_by w5 300 row 0 refl (inr (lit≤ tt))) refl
    arrived))))))))))

-- the last picture lies where the first one lay
lies_there : lying w6 0 ≡ p3
unfolding opened read written among
lies_there = refl

-- every premise holds, so that the demand speaks of these three warps
abbrev Claim : World → Type 0
Claim w = Near (lying w 0) (exact_chain (exactly p0) w.chain.warps) (length w.chain.warps)

lived_near : Claim (lived w0 events)
lived_near =
    (memory_demand m0 p0 0 events (read_back (λ (a : ℕ). 0) 0 p0.bytes) first went.kept
    (subst⁻¹ (λ (w : World). Each Conditions w.chain.warps) went.is conditions)
    ).1
    0
    (ap (λ (w : World). w.home) went.is)

pub example_near : Near p3 (exact_chain (exactly p0) warps) 3
example_near = subst (λ (p : Image). Near p (exact_chain (exactly p0) warps) 3) lies_there
    (subst Claim went.is lived_near)
