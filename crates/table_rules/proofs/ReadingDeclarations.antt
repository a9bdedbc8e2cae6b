-- The entries of declarations are determined by their event sequences.
use Rattle.std.proofs.Common.{◌≡◌, ℕ, Bool, true, false, List, [], ◌∷◌, ◌++◌, map, Option, Some, None, refl, ap, ap₂, ◌∙◌}
use Rattle.std.specs.declared.boxed.Box.{Box}
use Rattle.std.specs.declared.alloc.Global.{Global}
use Rattle.ob_scan.specs.declared.kind.Kind.{Kind}
use Rattle.ob_scan.specs.declared.kind.Kind.TheVariants as kinds
use Rattle.ob_tree.specs.declared.name.Identdef.{Identdef}
use Rattle.ob_tree.specs.declared.expression.Expr.{Expr}
use Rattle.ob_tree.specs.declared.statement.StatementSequence.{StatementSequence}
use Rattle.ob_tree.specs.declared.declaration.Parameters.{Parameters}
use Rattle.ob_tree.specs.declared.declaration.Declarations.{Declarations, roll-Declarations, out-Declarations, out-roll-Declarations}
use Rattle.ob_tree.specs.declared.declaration.ProcDecl.{ProcDecl, roll-ProcDecl, out-ProcDecl, out-roll-ProcDecl}
use Rattle.ob_tree.specs.Constructs as constructs
use Rattle.ob_tree.specs.TreeEvents.{Events, construct, word, repeated, if_present}
use Rattle.ob_tree.specs.Expressions.{expr_events}
use Rattle.ob_tree.specs.Statements.{block_events}
use Rattle.ob_tree.specs.Types.{parameters_events}
use Rattle.ob_tree.specs.Declaring.{const_events, type_decl_events, variable_events, declarations_events, procedure_events}
use Rattle.ob_tree.proofs.DeclarationLayers.{declarations_shown, procedure_shown, declarations_out, procedure_out}
use Rattle.ob_tree.proofs.DeclarationInduction.{DeclarationPredicates, DeclarationSteps, DeclarationsLayer, ProcedureLayer, WithDeclarations, WithProcedure, declarations_of, procedure_of, declarations_induction}
use Rattle.module_table.specs.declared.rows.DeclKind.TheVariants as decl_kinds
use Rattle.module_table.specs.Parts.{Fragment, token, both, with_rows, declaring, opens_block}
use Rattle.module_table.specs.Parts.{if_present as there, each as pieces}
use Rattle.table_rules.specs.Expressions.{Phrase, expr_rows, expr_phrase}
use Rattle.table_rules.specs.Statements.{block_rows}
use Rattle.table_rules.specs.Types.{identdef_rows, parameters_rows}
use Rattle.table_rules.specs.Declaring.{procedure_end, const_rows, type_decl_rows, variable_rows, declarations_rows, procedure_rows}
use Rattle.table_rules.proofs.DeclarationLayers as told
use Rattle.table_rules.proofs.Reading.{Reads, never, on_word, maybe, tail_is, r-until, r-past, r-then, r-held, r-at, r-layer}
use Rattle.table_rules.proofs.ReadingLists.{r-there, r-map, each_told, there_told}
use Rattle.table_rules.proofs.ReadingNames.{on_words, not_the_first, none_behind}
use Rattle.table_rules.proofs.ReadingExpressions.{r-expr}
use Rattle.table_rules.proofs.ReadingStatements.{r-block}
use Rattle.table_rules.proofs.ReadingParameters.{r-identdef, r-heading}
use Rattle.table_rules.proofs.ReadingSections.{r-const, r-type_decl, r-variable, on_section, list_ends, no_construct, no_const, no_type, no_var, procedures_shown, variables_shown, types_shown, before_procedures, before_variables, before_types, r-list, const_begins, type_decl_begins, variable_begins, section_told, section_seen, on_declarations}

-- ---- declarations

abbrev predicates : DeclarationPredicates
predicates = record {
  declarations = λ x. Reads declarations_rows declarations_events on_declarations (declarations_rows x) (declarations_events x);
  procedure = λ x. Reads procedure_rows procedure_events never (procedure_rows x) (procedure_events x);
}

abbrev Sections : Type 0
Sections = Option (List Fragment) × (Option (List Fragment) × (Option (List Fragment) × List Fragment))

abbrev declarations_parts : DeclarationsLayer → Sections
declarations_parts z = (maybe (λ v. map const_rows v.items) z.constants, (maybe (λ v. map type_decl_rows v.items) z.types, (maybe (λ v. map variable_rows v.items) z.variables, map procedure_rows z.procedures.items)))

abbrev declarations_told : Sections → Fragment
declarations_told p = both (there section_told p.0) (both (there section_told p.1.0) (both (there section_told p.1.1.0) (pieces (λ x. both x token) p.1.1.1)))

declarations_tells : (d : Declarations) → declarations_rows d ≡ declarations_told (declarations_parts (out-Declarations d))
declarations_tells d = told.declarations_out d ∙
    ap₂ (λ (a : Fragment) (b : Fragment). both a b) (section_seen const_rows (out-Declarations d).constants)
    (ap₂ (λ (a : Fragment) (b : Fragment). both a b) (section_seen type_decl_rows (out-Declarations d).types)
    (ap₂ (λ (a : Fragment) (b : Fragment). both a b) (section_seen variable_rows (out-Declarations d).variables)
    (each_told procedure_rows (λ x. both x token) (out-Declarations d).procedures.items)))

procedure_begins : (p : ProcDecl) (s : Events) → on_declarations ((procedure_events p ++ word kinds.Semicolon) ++ s) ≡ true
unfolding construct
procedure_begins p s = ap (λ (o : Events). on_declarations ((o ++ word kinds.Semicolon) ++ s)) (procedure_out p)

consts_end : (z : DeclarationsLayer) (s : Events) → on_declarations s ≡ false → on_section kinds.Const ((types_shown z.types ++ (variables_shown z.variables ++ procedures_shown z.procedures.items)) ++ s) ≡ false
consts_end z s i = before_types kinds.Const z.types z.variables z.procedures.items s refl refl (no_const s i) (no_construct s i)

types_end : (z : DeclarationsLayer) (s : Events) → on_declarations s ≡ false → on_section kinds.Type ((variables_shown z.variables ++ procedures_shown z.procedures.items) ++ s) ≡ false
types_end z s i = before_variables kinds.Type z.variables z.procedures.items s refl (no_type s i) (no_construct s i)

variables_end : (z : DeclarationsLayer) (s : Events) → on_declarations s ≡ false → on_section kinds.Var (procedures_shown z.procedures.items ++ s) ≡ false
variables_end z s i = before_procedures kinds.Var z.procedures.items s (no_var s i) (no_construct s i)

declarations_held : (y : WithDeclarations predicates) → Reads declarations_parts declarations_shown on_declarations (declarations_parts (declarations_of predicates y)) (declarations_shown (declarations_of predicates y))
declarations_held y =
    r-until (r-there (on_section kinds.Const) (λ z. z.constants) y.constants (r-list const_rows const_events kinds.Const r-const const_begins) (list_ends kinds.Const) (λ v s. refl)) (λ s i. consts_end (declarations_of predicates y) s i) (λ z s i. consts_end z s i)
    (r-until (r-there (on_section kinds.Type) (λ z. z.types) y.types (r-list type_decl_rows type_decl_events kinds.Type r-type_decl type_decl_begins) (list_ends kinds.Type) (λ v s. refl)) (λ s i. types_end (declarations_of predicates y) s i) (λ z s i. types_end z s i)
    (r-until (r-there (on_section kinds.Var) (λ z. z.variables) y.variables (r-list variable_rows variable_events kinds.Var r-variable variable_begins) (list_ends kinds.Var) (λ v s. refl)) (λ s i. variables_end (declarations_of predicates y) s i) (λ z s i. variables_end z s i)
    (r-at (λ z. z.procedures.items) (r-map procedure_rows (λ p. procedure_events p ++ word kinds.Semicolon) never on_declarations procedure_begins (λ s i. refl) (λ p s. refl) _ y.procedures.items (λ p. r-then kinds.Semicolon p.1 (λ s. refl))))))

declarations_layer : (y : WithDeclarations predicates) → predicates.declarations (roll-Declarations (declarations_of predicates y))
declarations_layer y = r-layer out-Declarations declarations_parts declarations_shown declarations_told declarations_tells declarations_out _ _ (out-roll-Declarations (declarations_of predicates y)) (declarations_held y)

-- ---- procedures

abbrev Heading : Type 0
Heading = Identdef × (Option Fragment × (Fragment × (Option Fragment × (Option Phrase × Bool))))

abbrev procedure_parts : ProcedureLayer → Heading
procedure_parts z = (z.name, (maybe parameters_rows z.parameters, (declarations_rows z.declarations, (maybe (λ b. block_rows b.value) z.body, (maybe (λ e. expr_phrase e.value) z.returned, true)))))

abbrev procedure_with : Identdef → Fragment → Fragment → Fragment → Fragment → Fragment
procedure_with i d a b c = declaring decl_kinds.Procedure (opens_block (
    both token (both (identdef_rows i) (both a (both token (both d (both b (both c (both token (with_rows procedure_end token))))))))))

abbrev procedure_told : Heading → Fragment
procedure_told p = procedure_with p.0 p.1.1.0 (there (λ x. x) p.1.0) (there (λ b. both token b) p.1.1.1.0) (there (λ e. both token e.piece) p.1.1.1.1.0)

procedure_tells : (p : ProcDecl) → procedure_rows p ≡ procedure_told (procedure_parts (out-ProcDecl p))
unfolding expr_rows
procedure_tells p = told.procedure_told p ∙
    ap₂ (λ (a : Fragment) (q : Fragment × Fragment). procedure_with (out-ProcDecl p).name (declarations_rows (out-ProcDecl p).declarations) a q.0 q.1)
    (there_told parameters_rows (λ x. x) (out-ProcDecl p).parameters)
    (ap₂ (λ (b : Fragment) (c : Fragment). (b, c)) (there_told (λ (b : Box StatementSequence Global). block_rows b.value) (λ b. both token b) (out-ProcDecl p).body)
    (there_told (λ (e : Box Expr Global). expr_phrase e.value) (λ e. both token e.piece) (out-ProcDecl p).returned))

pub r-repeated : {Z : Type 0} (h g : Z → ℕ) (m n : ℕ) → Reads {Z = Z} {A = Bool} (λ z. true) (λ z. repeated (h z) (g z)) never true (repeated m n)
r-repeated h g m n = record { same = λ z r s i j e. (refl, tail_is _ _ r s e) }

no_star : (o : Option Parameters) (r s : Events) → on_word kinds.Star ((if_present parameters_events o ++ (word kinds.Semicolon ++ r)) ++ s) ≡ false
unfolding parameters_events
no_star None r s = refl
no_star (Some p) r s = refl

abbrev body_shown : Option (Box StatementSequence Global) → Events
body_shown o = if_present (λ b. word kinds.Begin ++ block_events b.value) o

abbrev returned_shown : Option (Box Expr Global) → Events
returned_shown o = if_present (λ e. word kinds.Return ++ expr_events e.value) o

no_declarations : (b : Option (Box StatementSequence Global)) (e : Option (Box Expr Global)) (r s : Events) → on_declarations ((body_shown b ++ (returned_shown e ++ (word kinds.End ++ r))) ++ s) ≡ false
no_declarations None None r s = refl
no_declarations None (Some e) r s = refl
no_declarations (Some b) e r s = refl

abbrev pub in_body : List Kind
in_body = kinds.Begin ∷ kinds.Semicolon ∷ []

no_body : (e : Option (Box Expr Global)) (r s : Events) → on_words in_body ((returned_shown e ++ (word kinds.End ++ r)) ++ s) ≡ false
no_body None r s = refl
no_body (Some e) r s = refl

pub body_ends : (s : Events) → on_words in_body s ≡ false → on_word kinds.Semicolon s ≡ false
body_ends s i = not_the_first kinds.Semicolon [] s (none_behind kinds.Begin (kinds.Semicolon ∷ []) s i)

r-body : (b : Box StatementSequence Global) → Reads {Z = Box StatementSequence Global} (λ z. block_rows z.value) (λ z. word kinds.Begin ++ block_events z.value) (on_word kinds.Semicolon) (block_rows b.value) (word kinds.Begin ++ block_events b.value)
r-body b = r-past kinds.Begin (r-at (λ z. z.value) (r-block b.value))

r-returned : (e : Box Expr Global) → Reads {Z = Box Expr Global} (λ z. expr_phrase z.value) (λ z. word kinds.Return ++ expr_events z.value) never (expr_phrase e.value) (word kinds.Return ++ expr_events e.value)
r-returned e = r-past kinds.Return (r-at (λ z. z.value) (r-expr e.value))

procedure_held : (y : WithProcedure predicates) → Reads procedure_parts procedure_shown never (procedure_parts (procedure_of predicates y)) (procedure_shown (procedure_of predicates y))
procedure_held y =
    r-past kinds.Procedure (r-until (r-at (λ z. z.name) (r-identdef y.name)) (λ s i. no_star y.parameters _ s) (λ z s i. no_star z.parameters _ s)
    (r-until (r-heading (λ z. z.parameters) y.parameters) (λ s i. refl) (λ z s i. refl)
    (r-past kinds.Semicolon
    (r-until (r-at (λ z. z.declarations) y.declarations.1) (λ s i. no_declarations y.body y.returned _ s) (λ z s i. no_declarations z.body z.returned _ s)
    (r-until (r-there (on_words in_body) (λ z. z.body) y.body r-body body_ends (λ b s. refl)) (λ s i. no_body y.returned _ s) (λ z s i. no_body z.returned _ s)
    (r-until (r-there (on_word kinds.Return) (λ z. z.returned) y.returned r-returned (λ s i. refl) (λ e s. refl)) (λ s i. refl) (λ z s i. refl)
    (r-past kinds.End (r-repeated (λ z. z.name.name) (λ z. z.end_name) y.name.name y.end_name))))))))

procedure_layer : (y : WithProcedure predicates) → predicates.procedure (roll-ProcDecl (procedure_of predicates y))
procedure_layer y = r-layer out-ProcDecl procedure_parts (λ z. construct constructs.ProcedureDeclaration (procedure_shown z)) procedure_told procedure_tells procedure_out _ _ (out-roll-ProcDecl (procedure_of predicates y)) (r-held constructs.ProcedureDeclaration (procedure_held y) (λ s. refl))

steps : DeclarationSteps predicates
steps = record {
  declarations = declarations_layer;
  procedure = procedure_layer;
}

pub r-declarations : (x : Declarations) → Reads declarations_rows declarations_events on_declarations (declarations_rows x) (declarations_events x)
r-declarations = declarations_induction predicates steps
