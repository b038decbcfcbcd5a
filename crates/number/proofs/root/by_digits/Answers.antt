-- `number::root::by_digits` meets its contract. The invariant is the classic one: the number is the square of the root
-- so far, the remainder and the digits to come (`RootDigits.antt`). After the last turn root and remainder are those of
-- the whole number. Assumes nothing.
use Rattle.std.proofs.Common.{◌≡◌, ℕ, ◌+◌, ◌-◌, ◌*◌, ◌^◌, ◌<◌, ◌≤◌, cond, ltb, sym, ◌∙◌, subst, arith, le-ltb, lt-ltb}
use Rattle.number.specs.Root.{nearest_root}
use Rattle.number.proofs.RootScale.{raised_lt}
use Rattle.number.proofs.RootWhole.{nearest_from}
use Rattle.number.proofs.RootDigits.{Digits, start, turn_one, turn_zero, root_lt, done}
use Rattle.number.proofs.root.by_digits.Goals as goal
use Rattle.number.proofs.root.by_digits.Goals.{then-s-r, else-s-r}

pub loop-init : goal.loop-init
loop-init c = start c.args.n c.requires

-- what a turn knows of the root's size
lt : (c : goal.In-loop) → c.loop.s < 2 ^ 53
lt c = let l = c.loop in
    root_lt (c.args.n * 2 ^ 52) l.s l.r l.rest (53 - l.counter) l.invariant

pub overflow_mul-r : goal.overflow_mul-r
overflow_mul-r c = omega (arith, lt c)

pub overflow_add-r : goal.overflow_add-r
overflow_add-r c = omega (arith, lt c)

pub overflow_mul-s : goal.overflow_mul-s
overflow_mul-s c = omega (arith, lt c)

pub overflow_mul-r-then-s-r : goal.overflow_mul-r-then-s-r
overflow_mul-r-then-s-r c = omega (arith, lt c.before)

pub overflow_add-r-then-s-r : goal.overflow_add-r-then-s-r
overflow_add-r-then-s-r c = omega (arith, lt c.before)

pub overflow_mul-s-then-s-r : goal.overflow_mul-s-then-s-r
overflow_mul-s-then-s-r c = omega (arith, lt c.before)

pub overflow_add-s : goal.overflow_add-s
overflow_add-s c = omega (arith, lt c.before)

pub overflow_mul-s-else-s-r : goal.overflow_mul-s-else-s-r
overflow_mul-s-else-s-r c = omega (arith, lt c.before)

-- the turn's new s and r are those of the branch, and one turn fewer is left
same : (a s r s' r' rest i : ℕ) → s ≡ s' → r ≡ r' → Digits a s' r' rest (53 - i - 1) → Digits a s r rest (53 - (i + 1))
same a s r s' r' rest i p q D =
    subst (λ (j : ℕ). Digits a s r rest j) (one i)
    (subst (λ (x : ℕ). Digits a x r rest (53 - i - 1)) (sym p)
    (subst (λ (x : ℕ). Digits a s' x rest (53 - i - 1)) (sym q) D))
  where
    one : (i : ℕ) → 53 - i - 1 ≡ 53 - (i + 1)
    one i = omega arith

some : (i : ℕ) → i < 53 → 0 < 53 - i
some i h = omega arith

pub loop-preserved : goal.loop-preserved
loop-preserved c =
    let l = c.loop in
    let a = c.args.n * 2 ^ 52 in
    let h = some _ c.loop-test.true in
    elim c.if-s-r.branch [
      | then-s-r w ↦ same a _ _ _ _ _ _ w.s-is w.r-is
          (turn_one a l.s l.r l.rest (53 - l.counter) l.invariant h w.if-s-r.true)
      | else-s-r w ↦ same a _ _ _ _ _ _ w.s-is w.r-is
          (turn_zero a l.s l.r l.rest (53 - l.counter) l.invariant h w.if-s-r.false)
    ]

-- the answer, by the last comparison
is : (n s r rest i : ℕ) → n < 2 ^ 54 → 53 ≤ i → Digits (n * 2 ^ 52) s r rest (53 - i)
    → nearest_root (n * 2 ^ 52) ≡ cond (ltb s r) (s + 1) s
is n s r rest i small end d =
    nearest_from (n * 2 ^ 52) s r (raised_lt n small) (done (n * 2 ^ 52) s r rest (53 - i) d (omega arith)) d.remainder

pub overflow_add-result : goal.overflow_add-result
overflow_add-result c =
    let l = c.loop in
    omega (arith, root_lt (c.args.n * 2 ^ 52) l.s l.r l.rest (53 - l.counter) l.invariant)

pub returns-then-r-s : goal.returns-then-r-s
returns-then-r-s c = let l = c.loop in
    sym (is c.args.n l.s l.r l.rest l.counter c.requires c.loop-test.false l.invariant ∙ simp (lt-ltb _ _ c.if-r-s.true))

pub returns-else-r-s : goal.returns-else-r-s
returns-else-r-s c = let l = c.loop in
    sym (is c.args.n l.s l.r l.rest l.counter c.requires c.loop-test.false l.invariant ∙ simp (le-ltb _ _ c.if-r-s.false))
