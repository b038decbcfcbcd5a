-- `listing::answer::answer` meets its contract: what is printed follows what is fitted. Assumes nothing.
use mathlib.Core.Path.{sym, ◌∙◌}
use Rattle.listing.proofs.PrintLaws.{refused_length, listing_length}
use Rattle.listing.proofs.answer.answer.Goals as goal

pub returns-in-Ok : goal.returns-in-Ok
returns-in-Ok c = rw (← c.in-Ok.ensures) (c.listing.ensures.0 ∙ sym (listing_length _), c.listing.ensures.1)

pub returns-in-Err : goal.returns-in-Err
returns-in-Err c =
    let put = rw c.number.ensures at c.refused.ensures.1 in
    rw (← c.in-Err.ensures) (c.refused.ensures.0 ∙ sym (refused_length _), put)
