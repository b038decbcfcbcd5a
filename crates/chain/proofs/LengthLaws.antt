-- A call leaves its band as long as it was: an accepted one's band is as long as its rows, by the table's last row, and
-- a refused one's is left. Assumes nothing.
use mathlib.Core.Path.{◌≡◌, refl, sym, ap, ◌∙◌}
use mathlib.Core.Bool.{Bool, true, false}
use lib.Dec.{eqb}
use lib.ListN.{length}
use borrow.Author.Tests.{eqb-true}
use Rattle.distort.specs.Call.{left}
use Rattle.distort.specs.Job.{Call}
use Rattle.distort.specs.Refusal.{refusal}
use Rattle.distort.proofs.AcceptedLaws.{accepted_call}
use Rattle.distort.proofs.BandLaws.{rows_length}
use Rattle.distort.proofs.CallLaws.{left_accepted}
use Rattle.chain.specs.Warps.{accepted}
use Rattle.chain.proofs.RefusedLaws.{refused_left}

pub keeps_length : (c : Call) → length (left c) ≡ length c.band
unfolding accepted
keeps_length c = by (eqb (refusal c) 0) refl
  where
    by : (t : Bool) → eqb (refusal c) 0 ≡ t → length (left c) ≡ length c.band
    by true e =
        let z : refusal c ≡ 0 = eqb-true (refusal c) 0 e in
        ap length (left_accepted c z) ∙ rows_length c.image c.given c.first c.rows
        ∙ sym (accepted_call c z).band
    by false e = ap length (refused_left c e)
