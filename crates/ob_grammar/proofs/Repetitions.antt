-- The repetitions of the grammar, within this many levels.
use Rattle.std.proofs.Common.{ℕ, zero, Bool, false, ◌++◌, []}
use Rattle.ob_scan.specs.declared.kind.Kind.{Kind}
use Rattle.ob_scan.specs.declared.kind.Kind.TheVariants as kinds
use Rattle.ob_tree.specs.declared.declaration.ImportItem.{ImportItem}
use Rattle.ob_tree.specs.declared.declaration.ParameterSection.{ParameterSection}
use Rattle.ob_tree.specs.declared.declaration.ProcDecl.{ProcDecl}
use Rattle.ob_tree.specs.declared.declaration.VarDecl.{VarDecl}
use Rattle.ob_tree.specs.declared.expression.AddOperator.{AddOperator}
use Rattle.ob_tree.specs.declared.expression.Element.{Element}
use Rattle.ob_tree.specs.declared.expression.Expr.{Expr}
use Rattle.ob_tree.specs.declared.expression.Factor.{Factor}
use Rattle.ob_tree.specs.declared.expression.MulOperator.{MulOperator}
use Rattle.ob_tree.specs.declared.expression.Selector.{Selector}
use Rattle.ob_tree.specs.declared.expression.Term.{Term}
use Rattle.ob_tree.specs.declared.name.Identdef.{Identdef}
use Rattle.ob_tree.specs.declared.role.Role.TheVariants.{Declares}
use Rattle.ob_tree.specs.declared.statement.Branch.{Branch}
use Rattle.ob_tree.specs.declared.statement.Case.{Case}
use Rattle.ob_tree.specs.declared.statement.LabelRange.{LabelRange}
use Rattle.ob_tree.specs.declared.statement.Stmt.{Stmt}
use Rattle.ob_tree.specs.declared.token.Leaf.{Leaf}
use Rattle.ob_tree.specs.Constructs as constructs
use Rattle.ob_tree.specs.TreeEvents.{Events, construct, declared, word}
use Rattle.ob_tree.specs.Names.{identdef_events}
use Rattle.ob_tree.specs.Expressions.{add_kind, mul_kind, element_events, expr_events, factor_events, selector_events, term_events}
use Rattle.ob_tree.specs.Statements.{branch_events, case_events, label_range_events, stmt_events}
use Rattle.ob_tree.specs.Types.{section_events, var_events}
use Rattle.ob_tree.specs.Declaring.{import_events, procedure_events}
use Rattle.ob_grammar.specs.Lookahead.{is_word}
use Rattle.ob_grammar.specs.Combinators.{Reader, accept_at, begins, name_at, node}
use Rattle.ob_grammar.specs.ReadNames.{identdef_at}
use Rattle.ob_grammar.specs.ReadExpressions.{add_at, mul_at, element_with, expr_at, factor_at, selector_first, selector_with, term_at}
use Rattle.ob_grammar.specs.ReadStatements.{block_at, branch_with, case_with, label_range_at, statement_at}
use Rattle.ob_grammar.specs.ReadTypes.{field_start, section_at, type_at, var_with}
use Rattle.ob_grammar.specs.ReadModules.{ConsumesToken, import_item_at, is_identifier, procedure_at, with_semicolon}
use Rattle.ob_grammar.proofs.Compatible.{name_held}
use Rattle.ob_grammar.proofs.CompatibleProductions.{branch_held, case_held, element_held, field_held, identdef_held, import_held, label_range_held, section_held}
use Rattle.ob_grammar.proofs.Sound.{Sound, sound, block_at_sound, expr_at_sound, factor_at_sound, statement_at_sound, term_at_sound, type_at_sound}
use Rattle.ob_grammar.proofs.Loops.{Advances, accept_advances, add_advances, mul_advances, declared_advances, field_advances, selector_advances}
use Rattle.ob_grammar.proofs.LoopProcedures.{procedure_advances}
use Rattle.ob_grammar.proofs.Turns.{Operation, Repetition}

-- items, each after a token of this kind
abbrev pub each_behind : {T : Type 0} → Kind → (d : ℕ) (r : Reader) → Sound d r → (T → Events) → Repetition T
each_behind k d r sound f = record { marks = word k; start = accept_at k; read = r; advances = accept_advances d k r sound; shown = f }

-- items, each if the next token is one of these
abbrev pub each_at : {T : Type 0} → (p : Leaf → Bool) (r : Reader) → Advances (begins p) r → (T → Events) → Repetition T
each_at p r more f = record { marks = []; start = begins p; read = r; advances = more; shown = f }

-- a declaration, and its semicolon
abbrev pub ended : {T : Type 0} → (T → Events) → T → Events
ended f x = f x ++ word kinds.Semicolon

abbrev pub expressions : ℕ → Repetition Expr
expressions d = each_behind kinds.Comma d (expr_at d) (expr_at_sound d) expr_events

abbrev pub elements : ℕ → Repetition Element
elements d = each_behind kinds.Comma d (element_with (expr_at d)) (element_held sound (expr_at_sound d)) element_events

abbrev pub selectors : ℕ → Repetition Selector
selectors d = each_at selector_first (selector_with (expr_at d)) (selector_advances d _ (expr_at_sound d)) selector_events

abbrev pub statements : ℕ → Repetition Stmt
statements d = each_behind kinds.Semicolon d (statement_at d) (statement_at_sound d) stmt_events

abbrev pub branches : ℕ → Kind → Repetition Branch
branches d k = each_behind kinds.Elsif d (branch_with (expr_at d) (block_at d) k) (branch_held sound k (expr_at_sound d) (block_at_sound d)) (λ b. branch_events b k)

abbrev pub cases : ℕ → Repetition Case
cases d = each_behind kinds.Bar d (case_with (block_at d)) (case_held sound (block_at_sound d)) case_events

abbrev pub label_ranges : Repetition LabelRange
label_ranges = each_behind kinds.Comma zero label_range_at (label_range_held sound) label_range_events

abbrev pub declared_names : Repetition Identdef
declared_names = each_behind kinds.Comma zero identdef_at (identdef_held sound) identdef_events

abbrev pub parameter_names : Repetition ℕ
parameter_names = each_behind kinds.Comma zero (name_at (declared false)) (name_held sound (Declares false) tt) (declared false)

abbrev pub sections : Repetition ParameterSection
sections = each_behind kinds.Semicolon zero section_at (section_held sound) section_events

abbrev pub field_lists : ℕ → Repetition VarDecl
field_lists d = record {
  marks = word kinds.Semicolon;
  start = field_start;
  read = node constructs.FieldList (var_with (type_at d));
  advances = field_advances d _ (field_held sound (type_at_sound d));
  shown = λ v. construct constructs.FieldList (var_events v);
}

abbrev pub imports : Repetition ImportItem
imports = each_behind kinds.Comma zero import_item_at (import_held sound) import_events

abbrev pub declarations : {T : Type 0} → (r : Reader) → ConsumesToken r → (T → Events) → Repetition T
declarations r h f = each_at is_identifier (with_semicolon r) (declared_advances r h) (ended f)

abbrev pub procedures : ℕ → Repetition ProcDecl
procedures d = each_at (is_word kinds.Procedure) (with_semicolon (procedure_at d)) (procedure_advances d) (ended procedure_events)

---- operators, and the operand after each

abbrev pub term_operations : ℕ → Operation AddOperator Term
term_operations d = record { kind = add_kind; at = add_at; read = term_at d; advances = add_advances d _ (term_at_sound d); shown = term_events }

abbrev pub factor_operations : ℕ → Operation MulOperator Factor
factor_operations d = record { kind = mul_kind; at = mul_at; read = factor_at d; advances = mul_advances d _ (factor_at_sound d); shown = factor_events }
