-- The limits of a job: sizes, counts, and how far an index goes. Specification 2 and 3. Assumes nothing.
use Rattle.std.specs.Prelude.{ℕ}

-- the largest side of a picture and of a window, in pixels
abbrev pub largest_side : ℕ
largest_side = 4096

-- how far from the picture's corner a window lies at most
abbrev pub largest_offset : ℕ
largest_offset = 1048576

-- the pairs of a fit, and the arguments of a call: an order and four numbers for each pair
abbrev pub most_pairs : ℕ
most_pairs = 64

abbrev pub most_arguments : ℕ
most_arguments = 257

-- how many pixels of a row are worked on at once
abbrev pub longest_span : ℕ
longest_span = 64

-- the largest whole number, in magnitude, that floor and ceil give, and the farthest tap beside it
abbrev pub farthest_floor : ℕ
farthest_floor = 2147483648

abbrev pub farthest_tap : ℕ
farthest_tap = 2147483649
