-- A distort call: the picture it is lent, what it is given besides, the rows it is asked for and the band they go to.
-- Specification 1.1. Assumes nothing.
use Rattle.std.specs.Prelude.{ℕ, List, ℤ}
use Rattle.picture.specs.Pixel.{pixel_at}
use Rattle.picture.specs.declared.colour.Rgba.{Rgba}
use Rattle.window.specs.View.{flag, view_by, is_given, window_or_none}
use Rattle.distort.specs.declared.job.Job.{Job}
pub use Rattle.band.specs.Image.{Image, image_of, shaped_image}

-- all that a call is given except picture, rows and band
pub record Given : Type 0 where
  pub method : ℕ
  pub arguments : List ℕ
  pub policy : ℕ
  pub interpolation : ℕ
  pub background : List ℕ
  pub matte : List ℕ
  pub bestfit : ℕ
  pub viewport : ℕ
  pub view_width : ℕ
  pub view_height : ℕ
  pub view_x : ℤ
  pub view_y : ℤ

pub record Call : Type 0 where
  pub image : Image
  pub given : Given
  pub first : ℕ
  pub rows : ℕ
  pub band : List ℕ

-- by the numbers that the code hands on. A yes is 1, and where there is no viewport its numbers are none, so that what
-- is not given does not count.
abbrev pub given_by : List ℕ → List ℕ → List ℕ → Job → Given
given_by arguments background matte j = record {
  method = j.method;
  arguments = arguments;
  policy = j.policy;
  interpolation = j.interpolation;
  background = background;
  matte = matte;
  bestfit = flag j.view.bestfit;
  viewport = flag (is_given j.view.viewport);
  view_width = (window_or_none j.view.viewport).width;
  view_height = (window_or_none j.view.viewport).height;
  view_x = (window_or_none j.view.viewport).x;
  view_y = (window_or_none j.view.viewport).y;
}

abbrev pub call_by : List ℕ → List ℕ → List ℕ → List ℕ → Job → List ℕ → Call
call_by picture arguments background matte j band = record {
  image = shaped_image picture j.shape;
  given = given_by arguments background matte j;
  first = j.rows.first;
  rows = j.rows.count;
  band = band;
}

-- from the call's parameters, in their order
abbrev pub job_of : ℕ → ℕ → ℕ → ℕ → ℕ → ℕ → ℕ → ℕ → ℕ → ℕ → ℤ → ℤ → ℕ → ℕ → Job
job_of width height channels method policy interpolation bestfit viewport view-width view-height view-x view-y first
    rows = record {
      shape = record { width = width; height = height; channels = channels };
      method = method;
      policy = policy;
      interpolation = interpolation;
      view = view_by bestfit viewport (record { width = view-width; height = view-height; x = view-x; y = view-y });
      rows = record { first = first; count = rows };
    }

abbrev pub call_of : List ℕ → ℕ → ℕ → ℕ → ℕ → List ℕ → ℕ → ℕ → List ℕ → List ℕ → ℕ → ℕ → ℕ → ℕ → ℤ → ℤ → ℕ → ℕ → List ℕ
    → Call
call_of picture width height channels method arguments policy interpolation background matte bestfit viewport view-width
    view-height view-x view-y first rows band =
    call_by picture arguments background matte
    (job_of width height channels method policy interpolation bestfit viewport view-width view-height view-x view-y
    first rows) band

-- background and matte are four f32 in 16 bytes
abbrev pub colour_of : List ℕ → Rgba
colour_of bytes = pixel_at bytes 1 4 0 0
