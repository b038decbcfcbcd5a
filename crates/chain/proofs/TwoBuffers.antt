-- Events that keep the words on sharing: two warps with two buffers in turn, the host writing over the picture that was
-- read in between. Of the calls only what they answer is taken as known. Assumes nothing.
use mathlib.Core.Path.{◌≡◌, refl, sym, ap, ◌∙◌}
use mathlib.Core.Logic.{inl, inr}
use mathlib.Core.Bool.{true}
use mathlib.Core.List.{List, [], ◌∷◌}
use Prim.Native.Nat.{ℕ, ◌+◌, ◌≤◌}
use lib.ListN.{length}
use Rattle.distort.specs.Call.{answer, left}
use Rattle.distort.specs.Job.{Image, Given, Call}
use Rattle.chain.specs.Memory.{
  Memory,
  Asked,
  call_in,
  Event,
  Calls,
  Writes,
  At,
  World,
  happens,
  lived,
  size,
  KeptCall,
  Kept,
  AllKept,
  born,
}
use Rattle.chain.specs.Warps.{State, start_of, pictured, accepted, all_rows, warped}
use Rattle.chain.proofs.ApartLaws.{asking, apart_by, write_by}
use Rattle.chain.proofs.LengthLaws.{keeps_length}
use Rattle.chain.proofs.ReadLaws.{read_length}
use Rattle.chain.proofs.TurnLaws.{Makes, whole_makes}

module _ (m : Memory) (first : Image) (A B n k r q : ℕ) (g h : Given) (bytes : List ℕ) where
  -- from A to B
  abbrev pub there : Asked
  there = asking A (length first.bytes) first g 0 r B n

  abbrev c : Call
  c = call_in m there

  abbrev w : World
  w = happens (happens (born m first A) (Calls there)) (Writes A bytes)

  -- and back, with the size and channels of the answer
  abbrev pub back : Asked
  back = asking B n (pictured (answer c) []) h 0 q A k

  abbrev d : Call
  d = call_in w.memory back

  abbrev pub in_turn : List Event
  in_turn = Calls there ∷ (Writes A bytes ∷ (Calls back ∷ []))

  pub record TwoWarps : Type 0 where
    pub first_accepted : accepted c ≡ true
    pub first_whole : all_rows c ≡ true
    pub second_accepted : accepted d ≡ true
    pub second_whole : all_rows d ≡ true
    pub picture_fits : A + length first.bytes ≤ B
    pub bytes_fit : A + length bytes ≤ B
    pub band_fits : A + k ≤ B

  module _ (t : TwoWarps) where
    makes : Makes (start_of first) c (warped (start_of first) c (left c)) (λ band home. At band)
    makes = whole_makes (start_of first) c t.first_accepted t.first_whole

    then-chain : w.chain ≡ warped (start_of first) c (left c)
    unfolding happens
    then-chain = makes.chain

    then-home : w.home ≡ At B
    unfolding happens
    then-home = makes.place B (At A)

    then-size : size w ≡ n
    then-size = ap (λ (s : State). length s.image.bytes) then-chain ∙ keeps_length c ∙ read_length m B n

    makes_back : Makes w.chain d (warped w.chain d (left d)) (λ band home. At band)
    makes_back = whole_makes w.chain d t.second_accepted t.second_whole

    kept_there : KeptCall (born m first A) there
    kept_there = record {
      apart = λ e. apart_by (born m first A) there A refl (inr t.picture_fits);
      lent = λ e f. record { place = refl; bytes = refl; width = refl; height = refl; channels = refl };
    }

    kept_write : Kept (happens (born m first A) (Calls there)) (Writes A bytes)
    unfolding happens
    kept_write = write_by (happens (born m first A) (Calls there)) A bytes B then-home (inl t.bytes_fit)

    kept_back : KeptCall w back
    kept_back = record {
      apart = λ e. apart_by w back B then-home (inl t.band_fits);
      lent = λ e f. record {
        place = then-home;
        bytes = sym then-size;
        width = ap (λ (s : State). s.image.width) (sym then-chain);
        height = ap (λ (s : State). s.image.height) (sym then-chain);
        channels = ap (λ (s : State). s.image.channels) (sym then-chain);
      };
    }

    pub in_turn_kept : AllKept (born m first A) in_turn
    unfolding AllKept
    in_turn_kept = (kept_there, (kept_write, (kept_back, tt)))

    -- the second warp's picture lies where the first one's lay, and both count
    pub in_turn_home : (lived (born m first A) in_turn).home ≡ At A
    unfolding lived happens
    in_turn_home = makes_back.place A w.home

    pub in_turn_warps : length (lived (born m first A) in_turn).chain.warps ≡ 2
    unfolding lived happens
    in_turn_warps = ap (λ (s : State). length s.warps) makes_back.chain
        ∙ ap (λ (s : State). length (warped s d (left d)).warps) then-chain
