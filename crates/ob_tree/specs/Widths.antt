-- How many tokens a name has, with its export mark, its member or its parentheses (Oberon-07 report, sections 4, 6.3 and 11).
use Rattle.std.specs.Prelude.{ℕ, ◌+◌, if◌then◌else◌, Option, Some, None}
use Rattle.ob_tree.specs.declared.name.Qualident.{Qualident}
use Rattle.ob_tree.specs.declared.name.Identdef.{Identdef}

-- an identifier, optionally followed by a dot or ":=" and a second identifier
abbrev pub name_width : Option ℕ → ℕ
name_width None = 1
name_width (Some n) = 3

-- an identifier, optionally followed by "*"
abbrev pub identdef_width : Identdef → ℕ
identdef_width i = if i.is_exported then 2 else 1

-- the optional name of a base record, in parentheses
abbrev pub base_width : Option Qualident → ℕ
base_width None = 0
base_width (Some q) = 2 + name_width q.member
