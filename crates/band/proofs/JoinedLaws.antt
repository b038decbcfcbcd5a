-- The laws of pieces one after another and of the sum over them: one more, a range cut in two, equal pieces; and of
-- pieces of one length, where each of them stands. By induction on their number, from the laws of the loop. Assumes
-- nothing.
use mathlib.Core.Path.{◌≡◌, refl, sym, ap, ◌∙◌, subst}
use mathlib.Core.List.{List, [], ◌++◌, append_assoc, append-nil}
use Prim.Native.Nat.{ℕ, zero, suc, ◌+◌, ◌-◌, ◌*◌, ◌≤◌, ◌<◌, zero-le}
use native.Mathlib.Nat.{add-zero, add-suc}
use native.Mathlib.Numerals.{add-one}
use native.Mathlib.Omega.{arith}
use lib.ListN.{length, get_or, take, drop, length-append, get_or-append}
use lib.Seq.{take_at, drop_at, get_or-append-add}
use Rattle.exact.proofs.Loop.{up_to_none, up_to_next, up_to_same}
use Rattle.band.specs.Joined.{joined, totalled}

-- ---- pieces
module _ {A : Type 0} (f : ℕ → List A) where
  pub joined_none : joined f 0 ≡ []
  unfolding joined
  joined_none = sym (up_to_none (λ (k : ℕ) (xs : List A). xs ++ f k) 0 [])

  -- one more
  pub joined_next : (n : ℕ) → joined f (n + 1) ≡ joined f n ++ f n
  unfolding joined
  joined_next n = sym (up_to_next (λ (k : ℕ) (xs : List A). xs ++ f k) 0 [] n zero-le refl)

  joined_suc : (n : ℕ) → joined f (suc n) ≡ joined f n ++ f n
  joined_suc n = ap (joined f) (sym (add-one n)) ∙ joined_next n

pub joined_same : {A : Type 0} (f g : ℕ → List A) (n : ℕ) → ((k : ℕ) → k < n → f k ≡ g k) → joined f n ≡ joined g n
unfolding joined
joined_same {A} f g n h =
    up_to_same (λ (k : ℕ) (xs : List A). xs ++ f k) (λ (k : ℕ) (xs : List A). xs ++ g k) 0 n [] zero-le
    (λ j y a b. ap (λ (ys : List A). y ++ ys) (h j b))

-- a range cut in two
pub joined_cut : {A : Type 0} (f : ℕ → List A) (m n : ℕ) → joined f (m + n) ≡ joined f m
    ++ joined (λ (k : ℕ). f (m + k)) n
joined_cut {A} f m zero =
    ap (joined f) (add-zero m) ∙ sym (append-nil (joined f m))
    ∙ ap (λ (ys : List A). joined f m ++ ys) (sym (joined_none (λ (k : ℕ). f (m + k))))
joined_cut {A} f m (suc n) =
    let g : ℕ → List A = λ (k : ℕ). f (m + k) in
    ap (joined f) (add-suc m n)
    ∙ joined_suc f (m + n)
    ∙ ap (λ (ys : List A). ys ++ f (m + n)) (joined_cut f m n)
    ∙ append_assoc (joined f m) (joined g n) (f (m + n))
    ∙ ap (λ (ys : List A). joined f m ++ ys) (sym (joined_suc g n))

-- ---- pieces of one length
longer : (n s : ℕ) → n * s + s ≡ suc n * s
longer n s = omega arith

module _ {A : Type 0} (f : ℕ → List A) (s : ℕ) (h : (k : ℕ) → length (f k) ≡ s) where
  pub joined_length : (n : ℕ) → length (joined f n) ≡ n * s
  joined_length zero = ap length (joined_none f) ∙ none s
    where
      none : (s : ℕ) → 0 ≡ 0 * s
      none s = omega arith
  joined_length (suc n) =
      ap length (joined_suc f n)
      ∙ length-append (joined f n) (f n)
      ∙ ap (λ (l : ℕ). length (joined f n) + l) (h n)
      ∙ ap (λ (l : ℕ). l + s) (joined_length n)
      ∙ longer n s

-- the pieces from m on, n of them, are a part of all t
pub joined_part : {A : Type 0} (f : ℕ → List A) (s : ℕ) → ((k : ℕ) → length (f k) ≡ s) → (m n t : ℕ) → m + n ≤ t
    → take (n * s) (drop (m * s) (joined f t)) ≡ joined (λ (k : ℕ). f (m + k)) n
joined_part {A} f s h m n t le =
    let g : ℕ → List A = λ (k : ℕ). f (m + k) in
    let r : ℕ = t - (m + n) in
    ap (λ (xs : List A). take (n * s) (drop (m * s) xs))
    (ap (joined f) (sym (cut m n t le)) ∙ joined_cut f m (n + r)
    ∙ ap (λ (ys : List A). joined f m ++ ys) (joined_cut g n r))
    ∙ ap (take (n * s)) (drop_at (joined f m) (joined g n ++ joined (λ (k : ℕ). g (n + k)) r) (m * s)
    (joined_length f s h m))
    ∙ take_at (joined g n) (joined (λ (k : ℕ). g (n + k)) r) (n * s) (joined_length g s (λ k. h (m + k)) n)
  where
    cut : (m n t : ℕ) → m + n ≤ t → m + (n + (t - (m + n))) ≡ t
    cut m n t le = omega arith

-- element i of piece k
pub joined_at : {A : Type 0} (f : ℕ → List A) (s : ℕ) → ((k : ℕ) → length (f k) ≡ s) → (n k i : ℕ) (d : A) → k < n
    → i < s
    → get_or (joined f n) (k * s + i) d ≡ get_or (f k) i d
joined_at {A} f s h n k i d a b =
    let g : ℕ → List A = λ (j : ℕ). f (k + j) in
    let r : ℕ = n - (k + 1) in
    ap (λ (xs : List A). get_or xs (k * s + i) d) (ap (joined f) (sym (cut k n a)) ∙ joined_cut f k (1 + r))
    ∙ ap (λ (l : ℕ). get_or (joined f k ++ joined g (1 + r)) (l + i) d) (sym (joined_length f s h k))
    ∙ get_or-append-add (joined f k) (joined g (1 + r)) i d
    ∙ ap (λ (xs : List A). get_or xs i d) (joined_cut g 1 r
    ∙ ap (λ (xs : List A). xs ++ joined (λ (j : ℕ). g (1 + j)) r) (one f k))
    ∙ get_or-append (f k) (joined (λ (j : ℕ). g (1 + j)) r) d i (subst (λ (l : ℕ). i < l) (sym (h k)) b)
  where
    cut : (k n : ℕ) → k < n → k + (1 + (n - (k + 1))) ≡ n
    cut k n a = omega arith

    one : (f : ℕ → List A) (k : ℕ) → joined (λ (j : ℕ). f (k + j)) 1 ≡ f k
    one f k = joined_suc (λ (j : ℕ). f (k + j)) 0
        ∙ ap (λ (xs : List A). xs ++ f (k + 0)) (joined_none (λ (j : ℕ). f (k + j))) ∙ ap f (add-zero k)

-- ---- sums
module _ (f : ℕ → ℕ) where
  pub totalled_none : totalled f 0 ≡ 0
  unfolding totalled
  totalled_none = sym (up_to_none (λ (k s : ℕ). s + f k) 0 0)

  pub totalled_next : (n : ℕ) → totalled f (n + 1) ≡ totalled f n + f n
  unfolding totalled
  totalled_next n = sym (up_to_next (λ (k s : ℕ). s + f k) 0 0 n zero-le refl)

  totalled_suc : (n : ℕ) → totalled f (suc n) ≡ totalled f n + f n
  totalled_suc n = ap (totalled f) (sym (add-one n)) ∙ totalled_next n

pub totalled_same : (f g : ℕ → ℕ) (n : ℕ) → ((k : ℕ) → k < n → f k ≡ g k) → totalled f n ≡ totalled g n
unfolding totalled
totalled_same f g n h = up_to_same (λ (k s : ℕ). s + f k) (λ (k s : ℕ). s + g k) 0 n 0 zero-le
    (λ j y a b. ap (λ (z : ℕ). y + z) (h j b))

pub totalled_cut : (f : ℕ → ℕ) (m n : ℕ) → totalled f (m + n) ≡ totalled f m + totalled (λ (k : ℕ). f (m + k)) n
totalled_cut f m zero =
    ap (totalled f) (add-zero m) ∙ sym (add-zero (totalled f m))
    ∙ ap (λ (z : ℕ). totalled f m + z) (sym (totalled_none (λ (k : ℕ). f (m + k))))
totalled_cut f m (suc n) =
    let g : ℕ → ℕ = λ (k : ℕ). f (m + k) in
    ap (totalled f) (add-suc m n)
    ∙ totalled_suc f (m + n)
    ∙ ap (λ (z : ℕ). z + f (m + n)) (totalled_cut f m n)
    ∙ grouped (totalled f m) (totalled g n) (f (m + n))
    ∙ ap (λ (z : ℕ). totalled f m + z) (sym (totalled_suc g n))
  where
    grouped : (a b c : ℕ) → a + b + c ≡ a + (b + c)
    grouped a b c = omega arith

-- of parts that are at most b each
pub totalled_most : (f : ℕ → ℕ) (b : ℕ) → ((k : ℕ) → f k ≤ b) → (n : ℕ) → totalled f n ≤ n * b
totalled_most f b h zero = omega (arith, totalled_none f)
totalled_most f b h (suc n) =
    more n b (totalled f n) (f n) (totalled f (suc n)) (totalled_suc f n) (totalled_most f b h n) (h n)
  where
    more : (n b t p u : ℕ) → u ≡ t + p → t ≤ n * b → p ≤ b → u ≤ suc n * b
    more n b t p u e l m = omega arith
