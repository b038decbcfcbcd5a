-- Where the exported call returns 0, it leaves in its band, byte for byte, the rows it asks for of the same job's warp.
-- That warp returns 0 too, whatever its band and answer held. The call's answer has the warp's size, offset and
-- channels, and the matte count of its own rows. Assumes nothing.
use mathlib.Core.Path.{◌≡◌, sym, ap, ◌∙◌}
use mathlib.Core.List.{List}
use Prim.Native.Nat.{ℕ}
use lib.ListN.{length}
use Rattle.distort.specs.Call.{answer, store_answer}
use Rattle.distort.specs.Job.{Call}
use Rattle.distort.specs.Answer.{Answer}
use Rattle.distort.proofs.CallLaws.{answer_number}
use Rattle.distort.proofs.RowsOfTheWarp.{counting, warp, warp_length, rows_in, own, rows_of_the_warp}
use Rattle.dihyravo.specs.Called.{called}

-- the same of the bytes; the call's answer held `before`, and the warp's held `other`
pub record CalledRows (c : Call) (before band other : List ℕ) : Type 0 where
  pub accepted : (called (warp c band) other).0 ≡ 0
  pub rows : (called c before).1.0 ≡ rows_in c (called (warp c band) other).1.0
  pub answered : (called c before).1.1 ≡ store_answer (counting (own c) (answer (warp c band))) before

pub called_rows : (c : Call) (before : List ℕ) → (called c before).0 ≡ 0
    → (band other : List ℕ) → length band ≡ warp_length c → CalledRows c before band other
called_rows c before e band other long =
    let R = rows_of_the_warp c (sym (answer_number c) ∙ e) band long in
    record {
      accepted = answer_number (warp c band) ∙ R.accepted;
      rows = R.rows;
      answered = ap (λ (a : Answer). store_answer a before) R.answered;
    }
