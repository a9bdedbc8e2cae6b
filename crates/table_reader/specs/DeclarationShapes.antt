-- Parts of declarations that have no type in the syntax tree: their events and their entries.
use Rattle.std.specs.Prelude.{ℕ, ◌++◌, List, Option}
use Rattle.ob_scan.specs.declared.kind.Kind.TheVariants as kinds
use Rattle.ob_tree.specs.declared.expression.Expr.{Expr}
use Rattle.ob_tree.specs.declared.statement.StatementSequence.{StatementSequence}
use Rattle.ob_tree.specs.declared.declaration.Declarations.{Declarations}
use Rattle.ob_tree.specs.declared.declaration.ProcDecl.{ProcDecl, out-ProcDecl}
use Rattle.ob_tree.specs.declared.declaration.ImportItem.{ImportItem}
use Rattle.ob_tree.specs.declared.name.OneOrMore.{OneOrMore}
use Rattle.ob_tree.specs.TreeEvents.{Events, each, word, repeated, separated}
use Rattle.ob_tree.specs.TreeEvents.{if_present as shown_there}
use Rattle.ob_tree.specs.Names.{identdef_events}
use Rattle.ob_tree.specs.Expressions.{expr_events}
use Rattle.ob_tree.specs.Statements.{block_events}
use Rattle.ob_tree.specs.Types.{parameters_events}
use Rattle.ob_tree.specs.Declaring.{declarations_events, procedure_events, import_events}
use Rattle.module_table.specs.declared.builder.Context.{Context}
use Rattle.module_table.specs.TableStages.{Stage, after, advanced}
use Rattle.module_table.specs.Parts.{Fragment, token, both, with_rows, if_present}
use Rattle.table_rules.specs.Expressions.{expr_rows}
use Rattle.table_rules.specs.Statements.{block_rows}
use Rattle.table_rules.specs.Types.{identdef_rows, parameters_rows}
use Rattle.table_rules.specs.Declaring.{declarations_rows, procedure_end, module_end, imports_rows}

-- the events of a declaration and its semicolon; `f` returns those of the declaration
abbrev pub ended_events : {X : Type 0} → (X → Events) → X → Events
ended_events f x = f x ++ word kinds.Semicolon

-- the entries of a declaration and its semicolon; `p` returns those of the declaration
abbrev pub ended_rows : {X : Type 0} → (X → Fragment) → X → Fragment
ended_rows p x = both (p x) token

-- the events of procedures, each with its semicolon
abbrev pub procedures_events : List ProcDecl → Events
procedures_events ps = each (ended_events procedure_events) ps

-- the events of BEGIN and statements, if they are present
abbrev pub body_events : Option StatementSequence → Events
body_events = shown_there (λ b. word kinds.Begin ++ block_events b)

abbrev pub body_rows : Option StatementSequence → Fragment
body_rows = if_present (λ b. both token (block_rows b))

-- the events of RETURN and its expression, if they are present
abbrev pub returned_events : Option Expr → Events
returned_events = shown_there (λ e. word kinds.Return ++ expr_events e)

abbrev pub returned_rows : Option Expr → Fragment
returned_rows = if_present (λ e. both token (expr_rows e))

-- the events of a procedure after its keyword PROCEDURE
abbrev pub procedure_rest_events : ProcDecl → Events
procedure_rest_events p =
    identdef_events (out-ProcDecl p).name ++ (shown_there parameters_events (out-ProcDecl p).parameters ++ (word kinds.Semicolon ++
    (declarations_events (out-ProcDecl p).declarations ++ (shown_there (λ b. word kinds.Begin ++ block_events b.value) (out-ProcDecl p).body ++
    (shown_there (λ e. word kinds.Return ++ expr_events e.value) (out-ProcDecl p).returned ++ (word kinds.End ++ repeated (out-ProcDecl p).name.name (out-ProcDecl p).end_name))))))

-- the entries of a procedure after its keyword PROCEDURE
abbrev pub procedure_rest_rows : ProcDecl → Fragment
procedure_rest_rows p =
    both (identdef_rows (out-ProcDecl p).name) (both (if_present parameters_rows (out-ProcDecl p).parameters) (both token
    (both (declarations_rows (out-ProcDecl p).declarations) (both (if_present (λ b. both token (block_rows b.value)) (out-ProcDecl p).body)
    (both (if_present (λ e. both token (expr_rows e.value)) (out-ProcDecl p).returned) (both token (with_rows procedure_end token)))))))

-- the parts of a procedure after its declarations: statements, the expression after RETURN, END, and the index of the name after END
abbrev pub Ending : Type 0
Ending = Option StatementSequence × (Option Expr × (Unit {0} × ℕ))

-- the events of these parts; `name` is the index of the procedure's name, which the name after END repeats
abbrev pub ending_events : ℕ → Ending → Events
ending_events name x = body_events x.0 ++ (returned_events x.1.0 ++ (word kinds.End ++ repeated name x.1.1.1))

-- the stage of the table builder after the entries of these parts
abbrev pub ending_step : Context → Ending → Stage → Stage
ending_step c x s = after (with_rows procedure_end token) c (advanced (after (returned_rows x.1.0) c (after (body_rows x.0) c s)))

-- the parts of a procedure after its heading: declarations, and the parts after them
abbrev pub Block : Type 0
Block = Declarations × Ending

-- the events of these parts; `name` is the index of the procedure's name, which the name after END repeats
abbrev pub procedure_block_events : ℕ → Block → Events
procedure_block_events name x = declarations_events x.0 ++ ending_events name x.1

-- the stage of the table builder after the entries of these parts
abbrev pub block_step : Context → Block → Stage → Stage
block_step c x s = ending_step c x.1 (after (declarations_rows x.0) c s)

-- the end of a module: END, the index of the name after it, and a dot
abbrev pub ModuleEnd : Type 0
ModuleEnd = Unit {0} × (ℕ × Unit {0})

-- the events of a module's end; `name` is the index of the module's name, which the name after END repeats
abbrev pub module_end_events : ℕ → ModuleEnd → Events
module_end_events name x = word kinds.End ++ (repeated name x.1.0 ++ word kinds.Dot)

-- the stage of the table builder after the entries of a module's end
abbrev pub end_step : Context → ModuleEnd → Stage → Stage
end_step c x s = advanced (after (with_rows module_end token) c (advanced s))

-- the parts of a module after its imports: declarations, statements if it has any, and its end
abbrev pub ModuleParts : Type 0
ModuleParts = Declarations × (Option StatementSequence × ModuleEnd)

-- the events of these parts; `name` is the index of the module's name, which the name after END repeats
abbrev pub module_parts_events : ℕ → ModuleParts → Events
module_parts_events name x = declarations_events x.0 ++ (body_events x.1.0 ++ module_end_events name x.1.1)

-- the stage of the table builder after the entries of these parts
abbrev pub parts_step : Context → ModuleParts → Stage → Stage
parts_step c x s = end_step c x.1.1 (after (body_rows x.1.0) c (after (declarations_rows x.0) c s))

-- the parts of a module after MODULE and its name: a semicolon, imports if it has any, and the parts after them
abbrev pub ModuleRest : Type 0
ModuleRest = Unit {0} × (Option (OneOrMore ImportItem) × ModuleParts)

-- the events of the imports of a module: IMPORT, the import items and a semicolon; none without imports
abbrev pub imports_events : Option (OneOrMore ImportItem) → Events
imports_events = shown_there (λ l. word kinds.Import ++ (separated kinds.Comma import_events l ++ word kinds.Semicolon))

-- the events of a module after its name, whose index is `name`
abbrev pub module_rest_events : ℕ → ModuleRest → Events
module_rest_events name x = word kinds.Semicolon ++ (imports_events x.1.0 ++ module_parts_events name x.1.1)

-- the stage of the table builder after the entries of a module after its name
abbrev pub module_rest_step : Context → ModuleRest → Stage → Stage
module_rest_step c x s = parts_step c x.1.1 (after (if_present imports_rows x.1.0) c (advanced s))
