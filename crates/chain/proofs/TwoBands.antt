-- Events that keep the words on sharing: a warp in two bands out of one buffer, each of which the host puts where it
-- belongs, until the picture lies whole. Of the calls only what they answer is taken as known, and that both together
-- are the rows in order. Assumes nothing.
use mathlib.Core.Path.{◌≡◌, refl, sym, ap, ap₂, ◌∙◌, subst⁻¹}
use mathlib.Core.Logic.{inr}
use mathlib.Core.Bool.{true, false}
use mathlib.Core.List.{List, [], ◌∷◌, ◌++◌}
use Prim.Native.Nat.{ℕ, ◌+◌, ◌≤◌}
use native.Mathlib.Omega.{arith}
use lib.ListN.{length, length-append}
use Rattle.distort.specs.Call.{answer, left}
use Rattle.distort.specs.Job.{Image, Given, Call}
use Rattle.chain.specs.Memory.{
  Memory,
  read,
  written,
  Asked,
  call_in,
  Event,
  Calls,
  Writes,
  Lies,
  Home,
  Nowhere,
  At,
  World,
  happens,
  lived,
  size,
  InBuffer,
  KeptCall,
  Kept,
  AllKept,
  born,
}
use Rattle.chain.specs.Warps.{State, start_of, accepted, all_rows, completes, group, together, warped, waits}
use Rattle.chain.proofs.ApartLaws.{asking, apart_by, write_by}
use Rattle.chain.proofs.LengthLaws.{keeps_length}
use Rattle.chain.proofs.ReadLaws.{read_length, read_on, read_back, read_apart}
use Rattle.chain.proofs.TurnLaws.{Makes, joined_makes, alone_makes}

-- the picture at A, the band's buffer at B, and the rows together at P
module _ (m : Memory) (first : Image) (A B P n k r q : ℕ) (g : Given) where
  abbrev pub top : Asked
  top = asking A (length first.bytes) first g 0 r B n

  abbrev c : Call
  c = call_in m top

  abbrev w1 : World
  w1 = happens (born m first A) (Calls top)

  abbrev w2 : World
  w2 = happens w1 (Writes P (left c))

  abbrev pub bottom : Asked
  bottom = asking A (length first.bytes) first g r q B k

  abbrev d : Call
  d = call_in w2.memory bottom

  abbrev w3 : World
  w3 = happens w2 (Calls bottom)

  abbrev w4 : World
  w4 = happens w3 (Writes (P + n) (left d))

  abbrev pub in_bands : List Event
  in_bands = Calls top ∷ (Writes P (left c) ∷ (Calls bottom ∷ (Writes (P + n) (left d) ∷ (Lies P ∷ []))))

  pub record TwoBands : Type 0 where
    pub top_accepted : accepted c ≡ true
    pub top_some : all_rows c ≡ false
    pub top_waits : completes (start_of first) c ≡ false
    pub bottom_accepted : accepted d ≡ true
    pub bottom_some : all_rows d ≡ false
    pub bottom_joins : completes w2.chain d ≡ true
    pub in_order : together (answer d) (group w2.chain d) ≡ left c ++ left d
    pub picture_fits : A + length first.bytes ≤ B
    pub top_fits : B + n ≤ P
    pub bottom_fits : B + k ≤ P

  module _ (t : TwoBands) where
    makes_top : Makes (start_of first) c (waits (start_of first) c) (λ band home. home)
    makes_top = alone_makes (start_of first) c t.top_accepted t.top_some t.top_waits

    makes_bottom : Makes w2.chain d (warped w2.chain d (together (answer d) (group w2.chain d)))
        (λ band home. Nowhere)
    makes_bottom = joined_makes w2.chain d t.bottom_accepted t.bottom_some t.bottom_joins

    top_long : length (left c) ≡ n
    top_long = keeps_length c ∙ read_length m B n

    bottom_long : length (left d) ≡ k
    bottom_long = keeps_length d ∙ read_length w2.memory B k

    -- after the first band the picture still lies at A
    home2 : w2.home ≡ At A
    unfolding happens
    home2 = makes_top.place B (At A)

    image2 : w2.chain.image ≡ first
    unfolding happens
    image2 = ap (λ (s : State). s.image) makes_top.chain

    size2 : size w2 ≡ length first.bytes
    size2 = ap (λ (p : Image). length p.bytes) image2

    kept_top : KeptCall (born m first A) top
    kept_top = record {
      apart = λ e. apart_by (born m first A) top A refl (inr t.picture_fits);
      lent = λ e f. record { place = refl; bytes = refl; width = refl; height = refl; channels = refl };
    }

    kept_copy : Kept w1 (Writes P (left c))
    unfolding happens
    kept_copy = write_by w1 P (left c) A home2 (inr (omega (arith, size2, t.picture_fits, t.top_fits)))

    kept_bottom : KeptCall w2 bottom
    kept_bottom = record {
      apart = λ e. apart_by w2 bottom A home2 (inr (omega (arith, size2, t.picture_fits)));
      lent = λ e f. record {
        place = home2;
        bytes = sym size2;
        width = ap (λ (p : Image). p.width) (sym image2);
        height = ap (λ (p : Image). p.height) (sym image2);
        channels = ap (λ (p : Image). p.channels) (sym image2);
      };
    }

    -- after the second it lies nowhere, until its rows are together
    home3 : w3.home ≡ Nowhere
    unfolding happens
    home3 = makes_bottom.place B w2.home

    kept_second : Kept w3 (Writes (P + n) (left d))
    kept_second = subst⁻¹ (λ (home : Home).
        InBuffer w3 home (λ (b : ℕ). written w3.memory (P + n) (left d) b ≡ w3.memory b)) home3 tt

    bytes4 : w4.chain.image.bytes ≡ left c ++ left d
    unfolding happens
    bytes4 = ap (λ (s : State). s.image.bytes) makes_bottom.chain ∙ t.in_order

    upper : read w4.memory P n ≡ left c
    unfolding happens
    upper =
        read_apart w3.memory (P + n) (left d) P n (λ a l u x y. omega arith)
        ∙ read_apart w2.memory B (left d) P n (λ a l u x y. omega (arith, bottom_long, t.bottom_fits))
        ∙ ap (read w2.memory P) (sym top_long)
        ∙ read_back w1.memory P (left c)

    lower : read w4.memory (P + n) k ≡ left d
    unfolding happens
    lower = ap (read w4.memory (P + n)) (sym bottom_long) ∙ read_back w3.memory (P + n) (left d)

    size4 : size w4 ≡ n + k
    size4 = ap length bytes4 ∙ length-append (left c) (left d) ∙ ap₂ ◌+◌ top_long bottom_long

    kept_whole : Kept w4 (Lies P)
    kept_whole = ap (read w4.memory P) size4 ∙ read_on w4.memory P n k ∙ ap₂ ◌++◌ upper lower ∙ sym bytes4

    pub in_bands_kept : AllKept (born m first A) in_bands
    unfolding AllKept
    in_bands_kept = (kept_top, (kept_copy, (kept_bottom, (kept_second, (kept_whole, tt)))))

    pub in_bands_home : (lived (born m first A) in_bands).home ≡ At P
    unfolding lived happens
    in_bands_home = refl

    -- and they are one warp
    pub in_bands_warps : length (lived (born m first A) in_bands).chain.warps ≡ 1
    unfolding lived happens
    in_bands_warps =
        ap (λ (s : State). length s.warps) makes_bottom.chain
        ∙ ap (λ (s : State). length (warped s d (together (answer d) (group w2.chain d))).warps) makes_top.chain
