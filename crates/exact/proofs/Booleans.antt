-- Laws of tests: what two that are joined tell of each, and what a test chooses. Provides: `or_true`, `or_false`,
-- `one_of`, `both_false` (||); `and_true`, `both`, `both_pass` (&&); `same_false` (two that fail together are
-- one); `yes_of`, `no_of`, `either` (what `cond` is, and what holds of it). Assumes nothing.
use mathlib.Core.Path.{◌≡◌, refl, sym}
use mathlib.Core.Logic.{◌⊎◌, inl, inr}
use mathlib.Core.Bool.{Bool, true, false, not, cond, ◌&&◌, ◌||◌, true≢false, false≢true}
use lib.Dec.{T}

-- ---- one or the other
pub or_true : (b : Bool) → (b || true) ≡ true
or_true true = refl
or_true false = refl

pub or_false : (a b : Bool) → (a || b) ≡ false → (a ≡ false) × (b ≡ false)
or_false true b h = absurd (true≢false h)
or_false false b h = (refl, h)

pub one_of : (a b : Bool) → (a || b) ≡ true → (a ≡ true) ⊎ (b ≡ true)
one_of true b h = inl refl
one_of false b h = inr h

pub both_false : (a b : Bool) → a ≡ false → b ≡ false → (a || b) ≡ false
both_false true b p q = p
both_false false b p q = q

-- ---- both
pub and_true : (b : Bool) → (b && true) ≡ b
and_true true = refl
and_true false = refl

pub both : (a b : Bool) → (a && b) ≡ true → (a ≡ true) × (b ≡ true)
both true b h = (refl, h)
both false b h = absurd (false≢true h)

pub both_pass : (a b : Bool) → T (a && b) → T a × T b
both_pass true b h = (tt, h)
both_pass false b h = absurd h

-- an answer that is false where another is, and the other way round, is the other
pub same_false : (a b : Bool) → (a ≡ false → b ≡ false) → (b ≡ false → a ≡ false) → a ≡ b
same_false true true f g = refl
same_false true false f g = g refl
same_false false true f g = sym (f refl)
same_false false false f g = refl

-- ---- what is chosen
pub yes_of : {A : Type 0} (b : Bool) (x y : A) → T b → cond b x y ≡ x
yes_of true x y t = refl
yes_of false x y t = absurd t

pub no_of : {A : Type 0} (b : Bool) (x y : A) → T (not b) → cond b x y ≡ y
no_of true x y t = absurd t
no_of false x y t = refl

pub either : {A : Type 0} (P : A → Type 0) (b : Bool) {x y : A} → P x → P y → P (cond b x y)
either P true p q = p
either P false p q = q
