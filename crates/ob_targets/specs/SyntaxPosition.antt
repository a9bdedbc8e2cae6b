-- The syntactic position of an identifier in its module, by the entries of the module table (Oberon-07 report, sections 4 to 11).
use Rattle.std.specs.Prelude.{ℕ, ◌==◌, List, Option, Some, None, Bool, false, if◌then◌else◌}
use Rattle.std.specs.List.{position}
use Rattle.std.specs.Option.{option_map_or}
use Rattle.module_table.specs.declared.rows.Declared.{Declared}
use Rattle.module_table.specs.declared.rows.End.{End}
use Rattle.module_table.specs.declared.rows.Import.{Import}
use Rattle.module_table.specs.declared.rows.Selector.{Selector}
use Rattle.module_table.specs.declared.rows.Step.{Step}
use Rattle.module_table.specs.declared.rows.Step.TheVariants as steps
use Rattle.module_table.specs.declared.rows.Used.{Used}
use Rattle.module_table.specs.Tables.{module_name_token}
use Rattle.module_table.specs.Parts.{Rows}
use Rattle.ob_targets.specs.declared.syntax_position.SyntaxPosition.{SyntaxPosition}
use Rattle.ob_targets.specs.declared.syntax_position.SyntaxPosition.TheVariants as syntax_positions

-- whether the token number in the option is `k`; false if there is none
abbrev pub is_token : ℕ → Option ℕ → Bool
is_token k None = false
is_token k (Some n) = n == k

-- the token number of the name after the dot of a selector; None for a selector of another kind
abbrev pub name_of : Step → Option ℕ
name_of (steps.Field k) = Some k
name_of (steps.Elements n) = None
name_of steps.Target = None
name_of (steps.Arguments t) = None

-- whether token `k` is the alias of the import item
abbrev pub is_alias : ℕ → Import → Bool
is_alias k i = i.alias == k

-- whether this token is the name of the module that the import item imports
abbrev pub is_imported_name : ℕ → Import → Bool
is_imported_name k i = i.imported == k

-- whether the entry declares this token
abbrev pub is_declared : ℕ → Declared → Bool
is_declared k d = d.number == k

-- whether token `k` is the name after END that this entry of the module table has
abbrev pub is_end_name : ℕ → End → Bool
is_end_name k e = e.number == k

-- whether token `k` is the identifier of this use
abbrev pub is_use : ℕ → Used → Bool
is_use k u = u.number == k

-- whether this token is the name after the dot of the selector
abbrev pub is_selected : ℕ → Selector → Bool
is_selected k s = is_token k (name_of s.step)

-- whether token `k` is the second identifier of the qualident whose first identifier is this use
abbrev pub is_second : ℕ → Used → Bool
is_second k u = is_token k u.member

-- the syntactic position that `at` gives the index of the first entry for which the test holds, or `otherwise` if it holds for none
abbrev pub first : {X : Type 0} → (X → Bool) → (ℕ → SyntaxPosition) → List X → SyntaxPosition → SyntaxPosition
first stands at rows otherwise = option_map_or at (position stands rows) otherwise

-- the syntactic position of a token, by the first of these kinds of entries that has it, or else the given position. By the law
-- `syntax_position_is_unique` only one kind has it, with two exceptions: an import item's alias is also a declared identifier, and a name
-- after a dot may be that of a selector and of a qualident
abbrev pub syntax_position_or : Rows → ℕ → SyntaxPosition → SyntaxPosition
syntax_position_or rows k otherwise = if k == module_name_token then syntax_positions.OwnName else
    first (is_alias k) syntax_positions.Item rows.imports (
    first (is_imported_name k) syntax_positions.Item rows.imports (
    first (is_declared k) syntax_positions.Declaration rows.declared (
    first (is_end_name k) syntax_positions.End rows.ends (
    first (is_use k) syntax_positions.Use rows.uses (
    first (is_selected k) syntax_positions.Selected rows.selectors (
    first (is_second k) syntax_positions.QualidentMember rows.uses otherwise))))))

-- the syntactic position of token `k`; Nowhere if no entry of the module table has the token
abbrev pub syntax_position : Rows → ℕ → SyntaxPosition
syntax_position rows k = syntax_position_or rows k syntax_positions.Nowhere
