-- The lines of locations.
use Rattle.std.specs.Prelude.{ℕ, List, ◌++◌, codes}
use Rattle.std.specs.List.{flat_map}
use Rattle.texts.specs.Places.{location_text, position_text, Style}
use Rattle.index_store.specs.Queries.{LocationModel}

-- a location as PATH:LINE:COL-LINE:COL in this style, from its start to its end
abbrev pub range_text : Style → LocationModel → List ℕ
range_text style location = location_text style location.path location.span.start.line location.span.start.column ++ codes "-" ++ position_text style location.span.end.line location.span.end.column

-- the line of a location, with its LF
abbrev pub location_line : Style → LocationModel → List ℕ
location_line style location = range_text style location ++ codes "\n"

-- a line for each location, in their order
abbrev pub location_lines : Style → List LocationModel → List ℕ
location_lines style locations = flat_map (location_line style) locations
