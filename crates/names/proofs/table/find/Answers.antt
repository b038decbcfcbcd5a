-- `names::table::find` meets its contract. The invariant: the whole table's answer is that of the entries that are left
-- at `k`, in a name that started at `from`. Assumes nothing.
use mathlib.Core.Path.{sym, ◌∙◌}
use native.Mathlib.Omega.{arith}
use borrow.Author.Rules.{rules}
use Rattle.names.proofs.Search.{all, over, next_code_le, inside, found, passed}
use Rattle.names.proofs.table.find.Goals as goal
use Rattle.names.proofs.table.find.Goals.{then-ends_name+else-same_name, else-ends_name}

pub loop-k-init : goal.loop-k-init
loop-k-init c = (all _ _, search rules)

pub returns-then-same_name : goal.returns-then-same_name
returns-then-same_name c =
    let l = c.loop-k in
    sym
    (l.invariant.0
    ∙ found _ _ _ _ l.invariant.1.0 (omega arith) _
    (sym c.ends_name.ensures ∙ c.if-ends_name.true)
    (sym c.same_name.ensures ∙ c.if-same_name.true))

pub loop-k-preserved : goal.loop-k-preserved
loop-k-preserved c =
    let l = c.loop-k in
    elim c.if-ends_name.branch [
      | then-ends_name+else-same_name w ↦ (
        rw (w.from-is, w.code-is, w.next_code-code.ensures)
            (l.invariant.0
            ∙ passed _ _ _ _ l.invariant.1.0 (omega arith) _ (sym c.ends_name.ensures ∙ w.if-ends_name.true)
            (sym w.same_name.ensures ∙ w.if-same_name.false)),
        omega (arith, next_code_le _ _ _ w.next_code-code.ensures),
      )
      | else-ends_name w ↦ (
        rw (w.from-is, w.code-is)
            (l.invariant.0 ∙ inside _ _ _ _ l.invariant.1.0 (omega arith) _ (sym c.ends_name.ensures
            ∙ w.if-ends_name.false)),
        search rules,
      )
    ]

pub returns : goal.returns
returns c =
    let l = c.loop-k in
    sym (l.invariant.0 ∙ over _ _ _ _ _ (omega arith))
