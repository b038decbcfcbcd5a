-- The three `from_name` readers, over bytes: a table of names and codes for each, and one lookup that ignores ASCII
-- case. A code is the place of the variant in its Rust enum's declaration, from 0; the methods that are absent have
-- theirs too. Specification 1.2. Assumes nothing.
use Rattle.std.specs.Prelude.{ℕ, ◌+◌, ◌<◌, Bool, true, false, cond, List, [], ◌∷◌, map, leb, eqb, Option, Some, None}
use Prim.Native.String.{String}
use Rattle.endian.specs.Bytes.{ascii}

-- u8::to_ascii_lowercase: A (65) to Z (90) become a to z, and every other byte stays
unfoldable pub lowercase : ℕ → ℕ
lowercase b = cond (leb 65 b) (cond (leb b 90) (b + 32) b) b

-- whether two lists of bytes are the same
unfoldable pub equal : List ℕ → List ℕ → Bool
equal [] [] = true
equal [] (y ∷ ys) = false
equal (x ∷ xs) [] = false
equal (x ∷ xs) (y ∷ ys) = cond (eqb x y) (equal xs ys) false

-- whether s, in lower case, is the name
unfoldable pub same_name : List ℕ → List ℕ → Bool
same_name s name = equal (map lowercase s) name

-- the code of the first name that s is in lower case; none is the refusal
unfoldable pub lookup : List (List ℕ × ℕ) → List ℕ → Option ℕ
lookup [] s = None
lookup ((name, n) ∷ table) s = cond (same_name s name) (Some n) (lookup table s)

-- the number of the refusal (specification 2, code); a code is none, which is 0 here
abbrev pub named_refusal : Option ℕ → ℕ
named_refusal (Some n) = 0
named_refusal None = 3

-- a code, if there is one, is below m
abbrev pub Below : ℕ → Option ℕ → Type 0
Below m (Some n) = n < m
Below m None = Unit

-- an entry, as an arm of the Rust's `match`
infix 70 ◌⇒◌
abbrev pub ◌⇒◌ : String → ℕ → List ℕ × ℕ
name ⇒ n = (ascii name, n)

-- DistortMethod::from_name
abbrev pub method_names : List (List ℕ × ℕ)
method_names =
    "affine" ⇒ 0
    ∷ "affineprojection" ⇒ 1
    ∷ "scalerotatetranslate" ⇒ 2
    ∷ "srt" ⇒ 2
    ∷ "perspective" ⇒ 3
    ∷ "perspectiveprojection" ⇒ 4
    ∷ "bilinearreverse" ⇒ 5
    ∷ "bilinear" ⇒ 6
    ∷ "bilinearforward" ⇒ 6
    ∷ "polynomial" ⇒ 7
    ∷ "arc" ⇒ 8
    ∷ "polar" ⇒ 9
    ∷ "depolar" ⇒ 10
    ∷ "barrel" ⇒ 11
    ∷ "barrelinverse" ⇒ 12
    ∷ "shepards" ⇒ 13
    ∷ []

-- VirtualPixel::from_name
abbrev pub policy_names : List (List ℕ × ℕ)
policy_names =
    "edge" ⇒ 0
    ∷ "undefined" ⇒ 0
    ∷ "background" ⇒ 1
    ∷ "black" ⇒ 2
    ∷ "white" ⇒ 3
    ∷ "gray" ⇒ 4
    ∷ "grey" ⇒ 4
    ∷ "transparent" ⇒ 5
    ∷ "none" ⇒ 5
    ∷ "tile" ⇒ 6
    ∷ "mirror" ⇒ 7
    ∷ "horizontaltile" ⇒ 8
    ∷ "verticaltile" ⇒ 9
    ∷ "horizontaltileedge" ⇒ 10
    ∷ "verticaltileedge" ⇒ 11
    ∷ "checkertile" ⇒ 12
    ∷ "random" ⇒ 13
    ∷ []

-- PixelInterpolate::from_name
abbrev pub interpolation_names : List (List ℕ × ℕ)
interpolation_names =
    "integer" ⇒ 0
    ∷ "nearest" ⇒ 1
    ∷ "nearestneighbor" ⇒ 1
    ∷ "average" ⇒ 2
    ∷ "average4" ⇒ 2
    ∷ "average9" ⇒ 3
    ∷ "average16" ⇒ 4
    ∷ "bilinear" ⇒ 5
    ∷ "catrom" ⇒ 6
    ∷ "bicubic" ⇒ 6
    ∷ "spline" ⇒ 7
    ∷ "background" ⇒ 8
    ∷ []
