-- A window handed out: the refusal's number, or 0 with width, height, x and y in the bytes lent. A refusal writes
-- nothing. Assumes nothing.
use Rattle.std.specs.Prelude.{ℕ, cond, List, eqb, ℤ}
use Rattle.endian.specs.Bytes.{store_u64, store_i64}
use Rattle.mappings.specs.Mapping.{Fitted}
use Rattle.window.specs.View.{view_by}
use Rattle.window.specs.Window.{window}
use Rattle.window.specs.declared.view.View.{View}
use Rattle.window.specs.Placed.{Placed, Window, Refused}
use Rattle.probe_fit.specs.Sized.{sized_fit}

unfoldable pub store_placed : Placed → List ℕ → ℕ × List ℕ
store_placed (Window width height x y) out =
    (0, store_i64 (store_i64 (store_u64 (store_u64 out 0 width) 8 height) 16 x) 24 y)
store_placed Refused out = (9, out)

unfoldable pub placed : Fitted → ℕ → ℕ → View → List ℕ → ℕ × List ℕ
placed f width height view out =
    cond (eqb f.refusal 0)
    (store_placed (window f.mapping.kind f.mapping.coef width height view) out)
    (f.refusal, out)

unfoldable pub probe_window : ℕ → List ℕ → ℕ → ℕ → ℕ → ℕ → ℕ → ℕ → ℤ → ℤ → List ℕ → ℕ × List ℕ
probe_window method bytes width height bestfit viewport view-width view-height view-x view-y out =
    placed (sized_fit method bytes width height) width height
    (view_by bestfit viewport (record { width = view-width; height = view-height; x = view-x; y = view-y })) out
