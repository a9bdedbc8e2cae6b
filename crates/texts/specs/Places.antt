-- Locations in files, in a style.
use Rattle.std.specs.Prelude.{ℕ, ◌+◌, ◌==◌, ◌&&◌, Bool, not, nat_eq, List, [], ◌++◌, length, codes, if◌then◌else◌}
use Rattle.std.specs.Fmt.{decimal}
use Rattle.std.specs.List.{ends_with}
use Rattle.texts.specs.Escapes.{escaped}
use Rattle.texts.specs.declared.places.LocationStyle.{LocationStyle}
use Rattle.texts.specs.declared.places.LocationStyle.TheVariants.{Plain, Editor}
use Rattle.texts.specs.declared.places.LocationWriter.{LocationWriter}

-- a style: the prefix of each path, and the number of the first line of a file and of the first column of a line
pub record Style : Type 0 where
  pub prefix : List ℕ
  pub first : ℕ

-- the path isn't empty and doesn't end in a slash
abbrev pub needs_slash : List ℕ → Bool
needs_slash path = not (length path == 0) && not (ends_with nat_eq path (codes "/"))

-- the prefix of paths in this folder
abbrev pub folder_prefix : List ℕ → List ℕ
folder_prefix folder = if needs_slash folder then folder ++ codes "/" else folder

-- paths unchanged, lines and columns from 0
abbrev pub plain_style : Style
plain_style = record { prefix = []; first = 0 }

-- paths after the path of this folder, lines and columns from 1
abbrev pub editor_style : List ℕ → Style
editor_style folder = record { prefix = folder_prefix folder; first = 1 }

-- the style that a value of `LocationStyle` denotes
abbrev pub style_of : LocationStyle → Style
style_of Plain = plain_style
style_of (Editor folder) = editor_style folder.now

-- `PATH`, with its control characters escaped
abbrev pub path_text : Style → List ℕ → List ℕ
path_text style path = escaped (style.prefix ++ path)

-- a position in this style, as `LINE:COL`
abbrev pub position_text : Style → ℕ → ℕ → List ℕ
position_text style line column = decimal (style.first + line) ++ codes ":" ++ decimal (style.first + column)

-- a location in this style, as `PATH:LINE:COL`
abbrev pub location_text : Style → List ℕ → ℕ → ℕ → List ℕ
location_text style path line column = path_text style path ++ codes ":" ++ position_text style line column

-- the style of a writer
abbrev pub writer_style : LocationWriter → Style
writer_style writer = style_of writer.style
