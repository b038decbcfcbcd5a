-- The fitted mapping: a kind, the order of its monomials, and its coefficients in the order of the Rust's fields, zeros
-- after them. Specification 5. Assumes nothing.
use Rattle.std.specs.Prelude.{ℕ, [], length, Option, Some, None, Result, Ok, Err}
use Rattle.refusals.specs.declared.Refusal.{Refusal}
use Rattle.refusals.specs.Number.{number}
use Rattle.mappings.specs.declared.mapping.Kind.{Kind}
use Rattle.mappings.specs.declared.mapping.Kind.TheVariants.{
  Nothing,
  Affine,
  Perspective,
  Poly,
  BilinearForward,
  Barrel,
  BarrelInverse,
  Shepards,
}
use Rattle.mappings.specs.declared.mapping.Mapping.{Mapping}
use Rattle.exact.specs.Vector.{Vector}
use Rattle.mappings.specs.Padded.{padded}

-- ---- kinds; one that is no mapping

abbrev pub no_kind : Kind
no_kind = Nothing

abbrev pub affine_kind : Kind
affine_kind = Affine

abbrev pub perspective_kind : Kind
perspective_kind = Perspective

abbrev pub poly_kind : Kind
poly_kind = Poly

abbrev pub bilinear_forward_kind : Kind
bilinear_forward_kind = BilinearForward

abbrev pub barrel_kind : Kind
barrel_kind = Barrel

abbrev pub barrel_inverse_kind : Kind
barrel_inverse_kind = BarrelInverse

abbrev pub shepards_kind : Kind
shepards_kind = Shepards

-- ---- the record. The order is 0 for the terms 1, x, y, xy and where there are no monomials, and else the degree.

unfoldable pub mapping : Kind → ℕ → Vector → Mapping
mapping kind order xs = record { kind = kind; order = order; count = length xs; coef = padded 256 xs }

-- ---- what a fit gives: a refusal, 0 where there is none, and then the mapping. Where there is one, the mapping is not
-- read.

pub record Fitted : Type 0 where
  pub refusal : ℕ
  pub mapping : Mapping

abbrev pub fitted : Mapping → Fitted
fitted m = record { refusal = 0; mapping = m }

-- a refusal's number, and no mapping
unfoldable pub refused : ℕ → Fitted
unfolding mapping
refused number = record { refusal = number; mapping = mapping no_kind 0 [] }

-- 8, degenerate, where there is no solution or no inverse
unfoldable pub solved_or8 : Option Mapping → Fitted
unfolding refused
solved_or8 None = refused 8
solved_or8 (Some m) = fitted m

-- what the code's answer stands for
abbrev pub fitted_by : Result Mapping Refusal → Fitted
fitted_by (Ok m) = fitted m
fitted_by (Err r) = refused (number r)
