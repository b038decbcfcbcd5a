-- `bestfit` up to the box: for an affine mapping and for a homography m, inverted. Nothing for the other kinds, where
-- there is no inverse, and where a corner is at the horizon. Specification 6. Assumes nothing.
use Rattle.std.specs.Prelude.{cond, [], ◌∷◌, Float, Option, Some, None}
use Rattle.linear.specs.Invert.{invert_affine, invert3}
use Rattle.mappings.specs.declared.mapping.Kind.{Kind}
use Rattle.mappings.specs.declared.mapping.Kind.TheVariants.{Affine, Perspective}
use Rattle.exact.specs.Vector.{Vector, at}
use Rattle.window.specs.declared.edges.Edges.{Edges}
use Rattle.window.specs.Corners.{affine_edges, any_lost, perspective_edges}

abbrev pub first_six : Vector → Vector
first_six m = at m 0 ∷ at m 1 ∷ at m 2 ∷ at m 3 ∷ at m 4 ∷ at m 5 ∷ []

abbrev pub first_nine : Vector → Vector
first_nine m = at m 0 ∷ at m 1 ∷ at m 2 ∷ at m 3 ∷ at m 4 ∷ at m 5 ∷ at m 6 ∷ at m 7 ∷ at m 8 ∷ []

unfoldable pub affine_found : Option Vector → Float → Float → Option Edges
affine_found (Some f) w h = Some (affine_edges f w h)
affine_found None w h = None

unfoldable pub perspective_found : Option Vector → Float → Float → Option Edges
perspective_found (Some f) w h = cond (any_lost f w h) None (Some (perspective_edges f w h))
perspective_found None w h = None

abbrev pub affine_box : Vector → Float → Float → Option Edges
affine_box m w h = affine_found (invert_affine (first_six m)) w h

abbrev pub perspective_box : Vector → Float → Float → Option Edges
perspective_box m w h = perspective_found (invert3 (first_nine m)) w h

unfoldable pub bestfit : Kind → Vector → Float → Float → Option Edges
bestfit Affine m w h = affine_box m w h
bestfit Perspective m w h = perspective_box m w h
bestfit _ m w h = None
