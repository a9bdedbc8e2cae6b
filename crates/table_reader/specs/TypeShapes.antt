-- Parts of types and of formal parameters that have no type in the syntax tree: their events, their entries, and their readers.
use Rattle.std.specs.Prelude.{ℕ, false, Bool, ◌++◌, Option}
use Rattle.std.specs.Global.{Box, Vec}
use Rattle.ob_scan.specs.declared.kind.Kind.{Kind}
use Rattle.ob_scan.specs.declared.kind.Kind.TheVariants as kinds
use Rattle.ob_tree.specs.declared.name.OneOrMore.{OneOrMore}
use Rattle.ob_tree.specs.declared.name.Qualident.{Qualident}
use Rattle.ob_tree.specs.declared.declaration.ParameterSection.{ParameterSection}
use Rattle.ob_tree.specs.declared.declaration.Parameters.{Parameters}
use Rattle.ob_tree.specs.declared.declaration.TypeForm.{TypeForm}
use Rattle.ob_tree.specs.declared.declaration.Fields.{Fields}
use Rattle.ob_tree.specs.declared.declaration.VarDecl.{VarDecl}
use Rattle.ob_tree.specs.declared.expression.Expr.{Expr}
use Rattle.ob_tree.specs.Constructs as constructs
use Rattle.ob_tree.specs.TreeEvents.{Events, construct, word, declared, separated, times}
use Rattle.ob_tree.specs.TreeEvents.{if_present as shown_there, if_true as shown_so, each_after as shown_after}
use Rattle.ob_tree.specs.Names.{qualident_events}
use Rattle.ob_tree.specs.Types.{section_events, parameters_events, type_events, fields_events, var_events}
use Rattle.module_table.specs.declared.rows.DeclKind.TheVariants as decl_kinds
use Rattle.module_table.specs.declared.rows.Part.TheVariants as parts
use Rattle.module_table.specs.declared.builder.Context.{Context}
use Rattle.module_table.specs.TableStages.{Stage, added, after, advanced}
use Rattle.module_table.specs.Parts.{Fragment, token, both, with_rows, if_present, if_true, each, declaring}
use Rattle.table_rules.specs.Expressions.{each_after, expr_rows}
use Rattle.table_rules.specs.Statements.{qualident_rows}
use Rattle.table_rules.specs.Types.{part_row, name_part, in_record, record_row, open_arrays, section_rows, parameters_rows, type_rows, fields_rows, var_rows}
use Rattle.ob_grammar.specs.Combinators.{Reader, accept_at, expect_at, many, name_at, nothing, optional, seq, several, unless}
use Rattle.ob_grammar.specs.ReadNames.{qualident_at}
use Rattle.ob_grammar.specs.ReadTypes.{section_at}

-- the events of the further items of a list, each after a token of this kind; `f` returns the events of an item
abbrev pub more_events : {X : Type 0} → Kind → (X → Events) → Vec X → Events
more_events k f v = shown_after k f v.items

abbrev pub more_rows : {X : Type 0} → (X → Fragment) → Vec X → Fragment
more_rows p v = each_after p v.items

-- the entries of one item or more with a separator between items; `p` returns the entries of an item
abbrev pub list_rows : {X : Type 0} → (X → Fragment) → OneOrMore X → Fragment
list_rows p l = both (p l.first) (each_after p l.rest.items)

-- the events of a token of this kind if the flag is true, none otherwise
abbrev pub optional_word_events : Kind → Bool → Events
optional_word_events k b = shown_so b (word k)

abbrev pub optional_word_rows : Bool → Fragment
optional_word_rows b = if_true b token

-- ---- formal parameters

-- the entries of a type name as a formal type
abbrev pub formal_name_rows : Qualident → Fragment
formal_name_rows q = with_rows (name_part q) (qualident_rows q)

-- the events of n times ARRAY OF
abbrev pub arrays_events : ℕ → Events
arrays_events n = times n (word kinds.Array ++ word kinds.Of)

-- the events of a formal type: a number of ARRAY OF, and a type name
abbrev pub formal_events : ℕ × Qualident → Events
formal_events x = arrays_events x.0 ++ qualident_events x.1

abbrev pub formal_at : Reader
formal_at = seq (many (accept_at kinds.Array) (expect_at kinds.Of)) qualident_at

abbrev pub formal_rows : ℕ × Qualident → Fragment
formal_rows x = both (open_arrays x.0) (formal_name_rows x.1)

-- the events of a section of formal parameters, without the section itself: VAR if present, the names, a colon and the formal type
abbrev pub inner_events : ParameterSection → Events
inner_events s = shown_so s.variable (word kinds.Var) ++ (separated kinds.Comma (declared false) s.names ++ (word kinds.Colon ++ (arrays_events s.open_arrays ++ qualident_events s.of)))

abbrev pub inner_at : Reader
inner_at = seq (optional (accept_at kinds.Var) nothing) (seq (several kinds.Comma (name_at (declared false))) (seq (expect_at kinds.Colon) formal_at))

-- the events of the sections of formal parameters, if there are any
abbrev pub sections_events : Option (OneOrMore ParameterSection) → Events
sections_events = shown_there (separated kinds.Semicolon section_events)

abbrev pub sections_rows : Option (OneOrMore ParameterSection) → Fragment
sections_rows = if_present (λ l. both (section_rows l.first) (each_after section_rows l.rest.items))

-- the events of a colon and the type of a result, if they are present
abbrev pub result_type_events : Option Qualident → Events
result_type_events = shown_there (λ q. word kinds.Colon ++ qualident_events q)

abbrev pub result_type_rows : Option Qualident → Fragment
result_type_rows = if_present (λ q. both token (qualident_rows q))

-- the events of the closing parenthesis of formal parameters, and of the result type if it is present
abbrev pub closing_events : Option Qualident → Events
closing_events o = word kinds.RightParen ++ result_type_events o

abbrev pub closing_rows : Option Qualident → Fragment
closing_rows o = both token (result_type_rows o)

abbrev pub closing_at : Reader
closing_at = seq (expect_at kinds.RightParen) (optional (accept_at kinds.Colon) qualident_at)

-- the events of formal parameters after their opening parenthesis
abbrev pub opened_events : Option (OneOrMore ParameterSection) × Option Qualident → Events
opened_events x = sections_events x.0 ++ closing_events x.1

abbrev pub opened_rows : Option (OneOrMore ParameterSection) × Option Qualident → Fragment
opened_rows x = both (sections_rows x.0) (closing_rows x.1)

abbrev pub opened_at : Reader
opened_at = seq (optional (unless kinds.RightParen) (several kinds.Semicolon section_at)) closing_at

-- the events of formal parameters, if they are present
abbrev pub optional_parameters_events : Option Parameters → Events
optional_parameters_events = shown_there parameters_events

abbrev pub optional_parameters_rows : Option Parameters → Fragment
optional_parameters_rows = if_present parameters_rows

-- ---- types

-- the events of a token of this kind and a type
abbrev pub type_after_token_events : Kind → TypeForm → Events
type_after_token_events k t = word k ++ type_events t

abbrev pub type_after_token_rows : TypeForm → Fragment
type_after_token_rows t = both token (type_rows t)

-- the entries of a further length of an array, which begins an array type of its own
abbrev pub length_rows : Expr → Fragment
length_rows e = both (with_rows (part_row parts.Array) token) (expr_rows e)

abbrev pub more_lengths_rows : Vec Expr → Fragment
more_lengths_rows v = each length_rows v.items

-- the events of a field list
abbrev pub field_events : VarDecl → Events
field_events v = construct constructs.FieldList (var_events v)

abbrev pub field_rows : VarDecl → Fragment
field_rows v = declaring decl_kinds.Field (var_rows v)

-- the entries of the further field lists of a record, each after a semicolon
abbrev pub more_fields_rows : Vec VarDecl → Fragment
more_fields_rows = more_rows field_rows

-- the events of the further field lists of a record, and of the semicolon after them if the flag is true
abbrev pub ended_events : Vec VarDecl × Bool → Events
ended_events x = more_events kinds.Semicolon field_events x.0 ++ optional_word_events kinds.Semicolon x.1

abbrev pub ended_rows : Vec VarDecl × Bool → Fragment
ended_rows x = both (more_fields_rows x.0) (optional_word_rows x.1)

-- the events of the base type of a record, in parentheses, if it is present
abbrev pub base_events : Option Qualident → Events
base_events = shown_there (λ q. word kinds.LeftParen ++ (qualident_events q ++ word kinds.RightParen))

abbrev pub base_rows : Option Qualident → Fragment
base_rows = if_present (λ q. both token (both (qualident_rows q) token))

-- the events of the field lists of a record, if there are any
abbrev pub optional_fields_events : Option (Box Fields) → Events
optional_fields_events = shown_there (λ f. fields_events f.value)

abbrev pub optional_fields_rows : Option (Box Fields) → Fragment
optional_fields_rows = if_present (λ f. fields_rows f.value)

-- the stage of the table builder after a record type with this base and these fields, from RECORD to END
abbrev pub record_stage : Option Qualident → Context → Option (Box Fields) → Stage → Stage
record_stage base c f s =
    advanced (after (optional_fields_rows f) (in_record c s.number) (after (base_rows base) (in_record c s.number) (advanced (added (record_row base c s.number) s))))

-- the events of the fields of a record, if it has any, and its END
abbrev pub closed_events : Option (Box Fields) → Events
closed_events f = optional_fields_events f ++ word kinds.End
