-- Calls for fewer rows that complete a warp leave, put together, what that warp leaves. Those that are alike to the
-- last of them ask of one job; each that is accepted holds rows of that job's warp, and every row is held by one of
-- them. Provides: `Every`, `every_append`, `IsAccepted`; `together_is`. Assumes nothing.
use mathlib.Core.Path.{◌≡◌, refl, sym, ap, ◌∙◌, subst}
use mathlib.Core.Bool.{Bool, true, false, false≢true, cond, ◌&&◌, ◌||◌}
use mathlib.Core.List.{List, [], ◌∷◌, ◌++◌}
use Prim.Native.Nat.{ℕ, zero, suc, ◌+◌, ◌-◌, ◌*◌, ◌≤◌, ◌<◌}
use native.Mathlib.Nat.{zero-add, one-mul}
use native.Mathlib.Omega.{arith}
use lib.Dec.{leb, ltb}
use lib.ListN.{take, drop}
use borrow.Author.Tests.{leb-true, leb-false, ltb-true}
use Rattle.exact.specs.Loop.{turns, up_to}
use Rattle.exact.proofs.Booleans.{both}
use Rattle.band.specs.Band.{row_bytes, rows_bytes}
use Rattle.distort.specs.Call.{out_width, out_height, mapped_of, source_of, rows_of, answer, left}
use Rattle.distort.specs.Job.{Image, Given, Call}
use Rattle.band.specs.Joined.{joined}
use Rattle.distort.specs.Refusal.{out_channels, refusal}
use Rattle.distort.specs.Answer.{Answer}
use Rattle.band.proofs.LengthLaws.{row_length_law}
use Rattle.distort.proofs.BandLaws.{row_length}
use Rattle.distort.proofs.CallLaws.{size, answer_accepted, left_accepted}
use Rattle.band.proofs.JoinedLaws.{joined_none, joined_next, joined_same, joined_part}
use Rattle.chain.specs.Warps.{
  alike,
  same_image,
  height_in,
  holds,
  any_holds,
  every_row,
  row_in,
  alike_to,
  row_size,
  together,
  State,
  group,
  completes,
}
use Rattle.chain.proofs.SameLaws.{alike_same}

-- ---- P of each call
abbrev pub Every : (Call → Type 0) → List Call → Type 0
Every P [] = Unit {0}
Every P (d ∷ ds) = P d × Every P ds

pub every_append : (P : Call → Type 0) (xs ys : List Call) → Every P xs → Every P ys → Every P (xs ++ ys)
every_append P [] ys a b = b
every_append P (x ∷ xs) ys a b = (a.0, every_append P xs ys a.1 b)

abbrev pub IsAccepted : Call → Type 0
IsAccepted d = refusal d ≡ 0

-- accepted, and alike to c
record Kin (c d : Call) : Type 0 where
  accepted : refusal d ≡ 0
  image : d.image ≡ c.image
  given : d.given ≡ c.given

alike_kin : (c : Call) (ds : List Call) → Every IsAccepted ds → Every (Kin c) (alike_to c ds)
unfolding alike_to
alike_kin c [] h = tt
alike_kin c (d ∷ ds) h = go (alike c d) refl (alike_kin c ds h.1)
  where
    go : (t : Bool) → alike c d ≡ t → Every (Kin c) (alike_to c ds)
        → Every (Kin c) (cond t (d ∷ alike_to c ds) (alike_to c ds))
    go true e k = let s = alike_same c d e in (record { accepted = h.0; image = sym s.0; given = sym s.1 }, k)
    go false e k = k

-- ---- every row is held
all_held : (f : ℕ → Bool) (n : ℕ) → turns (λ (r : ℕ) (t : Bool). t && f r) 0 n true ≡ true → (r : ℕ) → r < n
    → f r ≡ true
unfolding turns
all_held f zero e r h = absurd (omega arith)
all_held f (suc n) e r h =
    let b = both (turns (λ (r : ℕ) (t : Bool). t && f r) 0 n true) (f (0 + n)) e in
    go b.1 (all_held f n b.0 r) (leb (suc r) n) (leb-true (suc r) n) (leb-false (suc r) n)
  where
    last : r < suc n → n < suc r → 0 + n ≡ r
    last a b = omega arith

    go : f (0 + n) ≡ true → (r < n → f r ≡ true) → (t : Bool) → (t ≡ true → suc r ≤ n) → (t ≡ false → n < suc r)
        → f r ≡ true
    go e k true a b = k (a refl)
    go e k false a b = sym (ap f (last h (b refl))) ∙ e

held : (n : ℕ) (cs : List Call) → every_row n cs ≡ true → (r : ℕ) → r < n → any_holds r cs ≡ true
unfolding every_row up_to
held n cs e = all_held (λ (r : ℕ). any_holds r cs) n
    (subst (λ (m : ℕ). turns (λ (r : ℕ) (t : Bool). t && any_holds r cs) 0 m true ≡ true) (less_zero n) e)
  where
    less_zero : (n : ℕ) → n - 0 ≡ n
    less_zero n = omega arith

-- ---- the rows of a job
abbrev row_at : Image → Given → ℕ → List ℕ
row_at p g r = row_bytes (source_of p g) (mapped_of p g) (out_channels p g) (out_width p g) r

-- row r out of some rows from `first` on
rows_at : (p : Image) (g : Given) (first rows r : ℕ) → first ≤ r → r < first + rows
    → take (row_length p g) (drop ((r - first) * row_length p g) (rows_of p g first rows)) ≡ row_at p g r
unfolding rows_of rows_bytes
rows_at p g first rows r h l =
    ap (λ (n : ℕ). take n (drop ((r - first) * row_length p g) (joined (λ (k : ℕ). row_at p g (first + k)) rows)))
    (sym (one-mul (row_length p g)))
    ∙ joined_part (λ (k : ℕ). row_at p g (first + k)) (row_length p g)
    (λ (k : ℕ). row_length_law (source_of p g) (mapped_of p g) (out_channels p g) (out_width p g) (first + k)) (r - first) 1
    rows (inside first rows r h l)
    ∙ joined_next (λ (k : ℕ). row_at p g (first + (r - first + k))) 0
    ∙ ap (λ (xs : List ℕ). xs ++ row_at p g (first + (r - first + 0)))
    (joined_none (λ (k : ℕ). row_at p g (first + (r - first + k))))
    ∙ ap (row_at p g) (back first r h)
  where
    inside : (first rows r : ℕ) → first ≤ r → r < first + rows → r - first + 1 ≤ rows
    inside first rows r h l = omega arith

    back : (first r : ℕ) → first ≤ r → first + (r - first + 0) ≡ r
    back first r h = omega arith

-- of the job that c asks of
abbrev row_of : Call → ℕ → List ℕ
row_of c r = row_at c.image c.given r

abbrev size_of : Call → ℕ
size_of c = row_length c.image c.given

kin_row : (c d : Call) → Kin c d → (r : ℕ) → holds r d ≡ true
    → take (size_of c) (drop ((r - d.first) * size_of c) (left d)) ≡ row_of c r
unfolding holds
kin_row c d k r e =
    let b = both (leb d.first r) (ltb r (d.first + d.rows)) e in
    ap (λ (bytes : List ℕ). take (size_of c) (drop ((r - d.first) * size_of c) bytes)) (left_accepted d k.accepted
    ∙ (λ i. rows_of (k.image i) (k.given i) d.first d.rows))
    ∙ rows_at c.image c.given d.first d.rows r (leb-true _ _ b.0) (ltb-true _ _ b.1)

row_found : (c : Call) (r : ℕ) (cs : List Call) → Every (Kin c) cs → any_holds r cs ≡ true
    → row_in (size_of c) r cs ≡ row_of c r
unfolding row_in any_holds
row_found c r [] k e = absurd (false≢true e)
row_found c r (d ∷ ds) k e = go (holds r d) refl e (row_found c r ds k.1)
  where
    go : (t : Bool) → holds r d ≡ t → (t || any_holds r ds) ≡ true
        → (any_holds r ds ≡ true → row_in (size_of c) r ds ≡ row_of c r)
        → cond t (take (size_of c) (drop ((r - d.first) * size_of c) (left d))) (row_in (size_of c) r ds) ≡ row_of c r
    go true h e f = kin_row c d k.0 r h
    go false h e f = f e

pub together_is : (s : State) (c : Call) → refusal c ≡ 0 → Every IsAccepted s.waiting → completes s c ≡ true
    → together (answer c) (group s c) ≡ rows_of c.image c.given 0 (out_height c.image c.given)
unfolding completes together row_size rows_of rows_bytes
together_is s c e w h =
    let A : Answer = size c in
    let rows : every_row (height_in A) (group s c) ≡ true =
    subst (λ (a : Answer). every_row (height_in a) (group s c) ≡ true) (answer_accepted c e)
    (both (same_image c.image s.image) (every_row (height_in (answer c)) (group s c)) h).1 in
    let kin : Every (Kin c) (group s c) =
    alike_kin c (s.waiting ++ (c ∷ [])) (every_append IsAccepted s.waiting (c ∷ []) w (e, tt)) in
    ap (λ (a : Answer). joined (λ (r : ℕ). row_in (row_size a) r (group s c)) (height_in a)) (answer_accepted c e)
    ∙ joined_same (λ (r : ℕ). row_in (size_of c) r (group s c)) (λ (r : ℕ). row_of c (0 + r))
    (out_height c.image c.given)
    (λ (r : ℕ) l. row_found c r (group s c) kin (held (height_in A) (group s c) rows r l)
    ∙ ap (row_of c) (sym (zero-add r)))
