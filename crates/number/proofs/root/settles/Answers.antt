-- `number::root::settles` meets its contract: the products fit, and where all tests pass no difference wrapped, so that
-- the last one says that q is the nearest root (`RootSettle.antt`). Assumes nothing.
use Rattle.std.proofs.Common.{ℕ, ◌*◌, ◌/◌, ◌%◌, ◌^◌, ◌<◌, ◌≤◌, arith, ltb-true}
use Rattle.exact.proofs.Booleans.{both}
use Rattle.number.proofs.RootSettle.{product_le, settled}
use Rattle.number.proofs.root.settles.Goals as goal

-- the halves of q, and the sizes of their products
high : (q : ℕ) → q ≤ 2 ^ 53 → q / 134217728 ≤ 2 ^ 26
high q h = omega arith

low : (q : ℕ) → q % 134217728 ≤ 2 ^ 27
low q = omega arith

low2 : (q : ℕ) → 2 * (q % 134217728) ≤ 2 ^ 28
low2 q = omega arith

four : (h : ℕ) → h * h ≤ 2 ^ 26 * 2 ^ 26 → 4 * h * h < 2 ^ 64
four h k = omega arith

pub overflow_mul-h-2 : goal.overflow_mul-h-2
overflow_mul-h-2 c =
    let h = c.args.q / 134217728 in
    let l = high c.args.q c.requires.2 in
    record { fits = four h (product_le h h (2 ^ 26) (2 ^ 26) l l) }

pub overflow_mul-h-3 : goal.overflow_mul-h-3
overflow_mul-h-3 c =
    let q = c.args.q in
    omega (
      arith,
      product_le (q / 134217728) (2 * (q % 134217728)) (2 ^ 26) (2 ^ 28) (high q c.requires.2)
          (low2 q),
    )

pub overflow_mul-l-2 : goal.overflow_mul-l-2
overflow_mul-l-2 c =
    let q = c.args.q in
    omega (arith, product_le (q % 134217728) (q % 134217728) (2 ^ 27) (2 ^ 27) (low q) (low q))

pub overflow_add-l : goal.overflow_add-l
overflow_add-l c =
    let q = c.args.q in
    omega (arith, product_le (q % 134217728) (q % 134217728) (2 ^ 27) (2 ^ 27) (low q) (low q))

pub returns : goal.returns
returns c = λ e.
    let s = c in
    let p = both _ _ e in
    let r = both _ _ p.0 in
    settled s.args.n s.args.q _ _ _ s.requires.0 s.requires.1 s.requires.2
    c.wrapping_sub_u64-d.ensures.value c.wrapping_sub_u64-f.ensures.value
    c.wrapping_sub_u64-t.ensures.value
    (ltb-true _ _ r.0) (ltb-true _ _ r.1) (ltb-true _ _ p.1)
