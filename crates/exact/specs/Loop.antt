-- Counted loops, generic in what a turn changes. A `for k in lo..hi` of the code is `up_to step lo hi x`,
-- a `for k in (lo..hi).rev()` is `down_to step lo hi x`. Both stay shut: a proof uses the laws of
-- proofs/Loop.antt and never the recursion. Assumes nothing.
use Rattle.std.specs.Prelude.{ℕ, zero, suc, ◌+◌, ◌-◌}

-- n turns from lo on: the last one made is number lo + n - 1
unfoldable pub turns : {A : Type 0} → (ℕ → A → A) → ℕ → ℕ → A → A
turns step lo zero x = x
turns step lo (suc n) x = step (lo + n) (turns step lo n x)

-- for k in lo..hi { x = step k x }
unfoldable pub up_to : {A : Type 0} → (ℕ → A → A) → ℕ → ℕ → A → A
unfolding turns
up_to step lo hi x = turns step lo (hi - lo) x

-- for k in (lo..hi).rev() { x = step k x }
unfoldable pub down_to : {A : Type 0} → (ℕ → A → A) → ℕ → ℕ → A → A
unfolding turns
down_to step lo hi x = turns (λ (n : ℕ). step (hi - 1 - n)) 0 (hi - lo) x
