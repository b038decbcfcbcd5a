-- The warps of a list of calls (specification 11.1), as a small machine over the list. Its state is the chain's
-- picture, the accepted calls for fewer rows made since the last warp or the start, and the warps found so far. Assumes
-- nothing.
use Rattle.std.specs.Prelude.{ℕ, ◌+◌, ◌-◌, ◌*◌, Bool, true, false, not, ◌&&◌, ◌||◌, cond, List, [], ◌∷◌, ◌++◌, eqb, leb, ltb, ℤ, pos, negsuc, take, drop}
use Rattle.exact.specs.Loop.{up_to}
use Rattle.distort.specs.Call.{answer, left}
use Rattle.distort.specs.Job.{Image, Given, Call}
use Rattle.band.specs.Joined.{joined}
use Rattle.distort.specs.Refusal.{refusal}
use Rattle.distort.specs.Answer.{Answer}
use Rattle.distort.specs.Answer.{Accepted, Refused}

-- ---- whether two are the same: by their bytes and numbers
unfoldable pub same_bytes : List ℕ → List ℕ → Bool
same_bytes [] [] = true
same_bytes [] (y ∷ ys) = false
same_bytes (x ∷ xs) [] = false
same_bytes (x ∷ xs) (y ∷ ys) = eqb x y && same_bytes xs ys

unfoldable pub same_whole : ℤ → ℤ → Bool
same_whole (pos m) (pos n) = eqb m n
same_whole (pos m) (negsuc n) = false
same_whole (negsuc m) (pos n) = false
same_whole (negsuc m) (negsuc n) = eqb m n

unfoldable pub same_image : Image → Image → Bool
same_image p q = same_bytes p.bytes q.bytes
    && (eqb p.width q.width && (eqb p.height q.height && eqb p.channels q.channels))

unfoldable pub same_given : Given → Given → Bool
same_given g h =
    eqb g.method h.method
    && (same_bytes g.arguments h.arguments
    && (eqb g.policy h.policy
    && (eqb g.interpolation h.interpolation
    && (same_bytes g.background h.background
    && (same_bytes g.matte h.matte
    && (eqb g.bestfit h.bestfit
    && (eqb g.viewport h.viewport
    && (eqb g.view_width h.view_width
    && (eqb g.view_height h.view_height
    && (same_whole g.view_x h.view_x
    && same_whole g.view_y h.view_y))))))))))

-- alike in all but rows and band
unfoldable pub alike : Call → Call → Bool
alike c d = same_image c.image d.image && same_given c.given d.given

-- ---- what an answer says of the output; nothing, where the call is refused
abbrev pub width_in : Answer → ℕ
width_in (Accepted width height x y channels matte-pixels) = width
width_in (Refused number) = 0

abbrev pub height_in : Answer → ℕ
height_in (Accepted width height x y channels matte-pixels) = height
height_in (Refused number) = 0

abbrev pub x_in : Answer → ℤ
x_in (Accepted width height x y channels matte-pixels) = x
x_in (Refused number) = pos 0

abbrev pub y_in : Answer → ℤ
y_in (Accepted width height x y channels matte-pixels) = y
y_in (Refused number) = pos 0

abbrev pub channels_in : Answer → ℕ
channels_in (Accepted width height x y channels matte-pixels) = channels
channels_in (Refused number) = 0

-- these bytes as the picture that the answer speaks of
abbrev pub pictured : Answer → List ℕ → Image
pictured a bytes = record { bytes = bytes; width = width_in a; height = height_in a; channels = channels_in a }

-- ---- a call by itself
unfoldable pub accepted : Call → Bool
accepted c = eqb (refusal c) 0

-- its first row is 0 and its row count the output height
unfoldable pub all_rows : Call → Bool
all_rows c = eqb c.first 0 && eqb c.rows (height_in (answer c))

-- it was asked for row r
unfoldable pub holds : ℕ → Call → Bool
holds r c = leb c.first r && ltb r (c.first + c.rows)

-- ---- calls for fewer rows together
unfoldable pub any_holds : ℕ → List Call → Bool
unfolding holds
any_holds r [] = false
any_holds r (c ∷ cs) = holds r c || any_holds r cs

-- they hold every row below n
unfoldable pub every_row : ℕ → List Call → Bool
unfolding any_holds
every_row n cs = up_to (λ (r : ℕ) (t : Bool). t && any_holds r cs) 0 n true

-- row r, of so many bytes, out of what the first call that holds it has left
unfoldable pub row_in : ℕ → ℕ → List Call → List ℕ
unfolding holds
row_in size r [] = []
row_in size r (c ∷ cs) = cond (holds r c) (take size (drop ((r - c.first) * size) (left c))) (row_in size r cs)

-- those of a list that are alike to c
unfoldable pub alike_to : Call → List Call → List Call
unfolding alike
alike_to c [] = []
alike_to c (d ∷ ds) = cond (alike c d) (d ∷ alike_to c ds) (alike_to c ds)

-- the bytes of a row of the output
unfoldable pub row_size : Answer → ℕ
row_size a = width_in a * channels_in a * 4

-- their rows in order, each once
unfoldable pub together : Answer → List Call → List ℕ
unfolding row_size row_in
together a cs = joined (λ (r : ℕ). row_in (row_size a) r cs) (height_in a)

-- ---- the machine
-- a warp: what it was given and what it answered, the picture it was lent, and the chain's picture there
pub record Warp : Type 0 where
  pub given : Given
  pub answered : Answer
  pub lent : Image
  pub chain : Image

pub record State : Type 0 where
  pub image : Image
  pub waiting : List Call
  pub warps : List Warp

abbrev pub start_of : Image → State
start_of first = record { image = first; waiting = []; warps = [] }

-- the calls that c joins, and c
abbrev pub group : State → Call → List Call
group s c = alike_to c (s.waiting ++ (c ∷ []))

-- with c, calls that were lent the chain's picture hold every row
unfoldable pub completes : State → Call → Bool
unfolding alike_to every_row
completes s c = same_image c.image s.image && every_row (height_in (answer c)) (group s c)

-- a warp, whole or joined, that leaves these bytes: the machine starts afresh
abbrev pub warped : State → Call → List ℕ → State
warped s c bytes = record {
  image = pictured (answer c) bytes;
  waiting = [];
  warps = s.warps ++ (record { given = c.given; answered = answer c; lent = c.image; chain = s.image } ∷ []);
}

abbrev pub waits : State → Call → State
waits s c = record { image = s.image; waiting = s.waiting ++ (c ∷ []); warps = s.warps }

unfoldable pub step : State → Call → State
unfolding accepted all_rows completes together
step s c =
    cond (not (accepted c)) s
    (cond (all_rows c) (warped s c (left c))
    (cond (completes s c) (warped s c (together (answer c) (group s c)))
    (waits s c)))

unfoldable pub run : State → List Call → State
unfolding step
run s [] = s
run s (c ∷ cs) = run (step s c) cs

-- after a list of calls, from a first picture on
abbrev pub after : Image → List Call → State
after first calls = run (start_of first) calls
