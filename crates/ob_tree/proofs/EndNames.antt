-- Only declarations of procedures and modules contain names after END.
use Rattle.std.proofs.Common.{◌≡◌, ℕ, Bool, List, [], ◌∷◌, ◌++◌, refl, ap, ◌∙◌, append_assoc}
use Rattle.std.proofs.lemmas.List.{append-nil, take_all}
use Rattle.std.proofs.lemmas.Grind.{take_at_read}
use Rattle.ob_scan.specs.declared.kind.Kind.{Kind}
use Rattle.ob_scan.specs.declared.kind.Kind.TheVariants as kinds
use Rattle.ob_tree.specs.Constructs as constructs
use Rattle.ob_tree.specs.declared.declaration.ConstDecl.{ConstDecl}
use Rattle.ob_tree.specs.declared.declaration.TypeDecl.{TypeDecl}
use Rattle.ob_tree.specs.declared.declaration.VarDecl.{VarDecl}
use Rattle.ob_tree.specs.declared.declaration.ImportItem.{ImportItem}
use Rattle.ob_tree.specs.declared.declaration.Module.{Module}
use Rattle.ob_tree.specs.declared.declaration.Declarations.{Declarations, out-Declarations}
use Rattle.ob_tree.specs.declared.declaration.ProcDecl.{ProcDecl, out-ProcDecl}
use Rattle.ob_tree.specs.declared.role.Role.TheVariants.{Declares, Aliases, Imports, Uses, Completes, Selects, Names, Repeats}
use Rattle.ob_tree.specs.TreeEvents.{Events, TreeEvent, Begins, Ends, Identifier, Value, Word, word, declared, aliased, imported, each, separated}
use Rattle.ob_tree.specs.Expressions.{expr_events}
use Rattle.ob_tree.specs.Statements.{block_events}
use Rattle.ob_tree.specs.Types.{parameters_events}
use Rattle.ob_tree.specs.Declaring.{const_events, type_decl_events, variable_events, part, declarations_events, procedure_events, import_events, module_events}
use Rattle.ob_tree.specs.Derives.{end_names_in}
use Rattle.ob_tree.proofs.DeclarationLayers.{procedure_shown, declarations_out, procedure_out}
use Rattle.ob_tree.proofs.Gathers.{Gathers, Without, without, gathered-append, gathered-past, gathered-construct, gathered-each_push}
use Rattle.ob_tree.proofs.Closed.{IsClosed, closed-both, closed-construct, closed-there, closed-each, closed-separated}
use Rattle.ob_tree.proofs.ClosedExpressions.{closed-expr}
use Rattle.ob_tree.proofs.ClosedStatements.{closed-block}
use Rattle.ob_tree.proofs.ClosedTypes.{closed-identdef, closed-parameters, closed-type, closed-var}

one_more : (m : TreeEvent) (ms : Events) → end_names_in (m ∷ ms) ≡ end_names_in (m ∷ []) ++ end_names_in ms
one_more (Begins c n) ms = refl
one_more (Ends c) ms = refl
one_more (Identifier (Declares is_exported) n) ms = refl
one_more (Identifier Aliases n) ms = refl
one_more (Identifier Imports n) ms = refl
one_more (Identifier Uses n) ms = refl
one_more (Identifier Completes n) ms = refl
one_more (Identifier Selects n) ms = refl
one_more (Identifier Names n) ms = refl
one_more (Identifier (Repeats m) n) ms = refl
one_more (Value k n) ms = refl
one_more (Word k) ms = refl

gathers : Gathers end_names_in
gathers = record {
  nothing = refl;
  more = one_more;
  of_begin = λ c n. refl;
  of_end = λ c. refl;
  of_word = λ k. refl;
  of_value = λ k n. refl;
  of_use = λ n. refl;
  of_completion = λ n. refl;
  of_selection = λ n. refl;
}

-- ---- sequences without names after END

-- no name after END is in it
abbrev NoEnd : Events → Type 0
NoEnd = Without end_names_in

no_end : IsClosed NoEnd
no_end = without end_names_in gathers

declares : (is_exported : Bool) (n : ℕ) → NoEnd (declared is_exported n)
declares is_exported n = record { none = refl }

aliases : (n : ℕ) → NoEnd (aliased n)
aliases n = record { none = refl }

imports : (n : ℕ) → NoEnd (imported n)
imports n = record { none = refl }

const_none : (c : ConstDecl) → NoEnd (const_events c)
unfolding const_events
const_none c = closed-construct NoEnd no_end constructs.ConstDeclaration (closed-both NoEnd no_end (closed-identdef NoEnd no_end declares c.name) (closed-both NoEnd no_end (no_end.a_word kinds.Equals) (closed-expr NoEnd no_end c.value)))

type_decl_none : (t : TypeDecl) → NoEnd (type_decl_events t)
unfolding type_decl_events
type_decl_none t = closed-construct NoEnd no_end constructs.TypeDeclaration (closed-both NoEnd no_end (closed-identdef NoEnd no_end declares t.name) (closed-both NoEnd no_end (no_end.a_word kinds.Equals) (closed-type NoEnd no_end declares t.type_expr)))

variable_none : (v : VarDecl) → NoEnd (variable_events v)
unfolding variable_events
variable_none v = closed-construct NoEnd no_end constructs.VariableDeclaration (closed-var NoEnd no_end declares v)

import_none : (i : ImportItem) → NoEnd (import_events i)
unfolding import_events
import_none i =
    closed-construct NoEnd no_end constructs.Import (closed-both NoEnd no_end (aliases i.name)
    (closed-there NoEnd no_end (λ m. word kinds.Assign ++ imported m) i.of (λ m. closed-both NoEnd no_end (no_end.a_word kinds.Assign) (imports m))))

part_none : {X : Type 0} (k : Kind) (f : X → Events) (xs : List X) → ((x : X) → NoEnd (f x)) → NoEnd (part k f xs)
part_none k f xs w = closed-both NoEnd no_end (no_end.a_word k) (closed-each NoEnd no_end (λ x. f x ++ word kinds.Semicolon) xs (λ x. closed-both NoEnd no_end (w x) (no_end.a_word kinds.Semicolon)))

-- ---- sequences with names after END

-- the names after END in a sequence that follows one without any
past : (a b : Events) → NoEnd a → end_names_in (a ++ b) ≡ end_names_in b
past = gathered-past end_names_in gathers

pub collect_end_names-append : (a b : Events) → end_names_in (a ++ b) ≡ end_names_in a ++ end_names_in b
collect_end_names-append = gathered-append end_names_in gathers

pub collect_end_names-each_push : {X : Type 0} (f : X → Events) (xs : List X) (x : X) → end_names_in (each f (xs ++ x ∷ [])) ≡ end_names_in (each f xs) ++ end_names_in (f x)
collect_end_names-each_push f xs x = gathered-each_push end_names_in gathers f xs x

-- only the procedures contain names after END
pub append_declaration_end_names : (d : Declarations) → end_names_in (declarations_events d) ≡ end_names_in (each (λ p. procedure_events p ++ word kinds.Semicolon) (out-Declarations d).procedures.items)
append_declaration_end_names d =
    ap end_names_in (declarations_out d)
    ∙ past _ _ (closed-there NoEnd no_end (λ v. part kinds.Const const_events v.items) (out-Declarations d).constants (λ v. part_none kinds.Const const_events v.items const_none))
    ∙ past _ _ (closed-there NoEnd no_end (λ v. part kinds.Type type_decl_events v.items) (out-Declarations d).types (λ v. part_none kinds.Type type_decl_events v.items type_decl_none))
    ∙ past _ _ (closed-there NoEnd no_end (λ v. part kinds.Var variable_events v.items) (out-Declarations d).variables (λ v. part_none kinds.Var variable_events v.items variable_none))

-- the names after END of the inner procedures, then the procedure's own
pub append_procedure_end_names : (p : ProcDecl) → end_names_in (procedure_events p) ≡ end_names_in (declarations_events (out-ProcDecl p).declarations) ++ ((out-ProcDecl p).name.name, (out-ProcDecl p).end_name) ∷ []
append_procedure_end_names p =
    ap end_names_in (procedure_out p) ∙ gathered-construct end_names_in gathers constructs.ProcedureDeclaration (procedure_shown (out-ProcDecl p))
    ∙ past _ _ (closed-identdef NoEnd no_end declares (out-ProcDecl p).name)
    ∙ past _ _ (closed-there NoEnd no_end parameters_events (out-ProcDecl p).parameters (closed-parameters NoEnd no_end declares))
    ∙ collect_end_names-append (declarations_events (out-ProcDecl p).declarations) _
    ∙ ap (λ (es : List (ℕ × ℕ)). end_names_in (declarations_events (out-ProcDecl p).declarations) ++ es) (
    past _ _ (closed-there NoEnd no_end (λ b. word kinds.Begin ++ block_events b.value) (out-ProcDecl p).body (λ b. closed-both NoEnd no_end (no_end.a_word kinds.Begin) (closed-block NoEnd no_end b.value)))
    ∙ past _ _ (closed-there NoEnd no_end (λ e. word kinds.Return ++ expr_events e.value) (out-ProcDecl p).returned (λ e. closed-both NoEnd no_end (no_end.a_word kinds.Return) (closed-expr NoEnd no_end e.value))))

pub append_module_end_names : (m : Module) → end_names_in (module_events m) ≡ end_names_in (declarations_events m.declarations) ++ (m.name, m.end_name) ∷ []
unfolding module_events
append_module_end_names m =
    gathered-construct end_names_in gathers constructs.Module _
    ∙ past _ _ (closed-there NoEnd no_end (λ l. word kinds.Import ++ (separated kinds.Comma import_events l ++ word kinds.Semicolon)) m.imports
    (λ l. closed-both NoEnd no_end (no_end.a_word kinds.Import) (closed-both NoEnd no_end (closed-separated NoEnd no_end kinds.Comma import_events l import_none) (no_end.a_word kinds.Semicolon))))
    ∙ collect_end_names-append (declarations_events m.declarations) _
    ∙ ap (λ (es : List (ℕ × ℕ)). end_names_in (declarations_events m.declarations) ++ es)
    (past _ _ (closed-there NoEnd no_end (λ b. word kinds.Begin ++ block_events b) m.body (λ b. closed-both NoEnd no_end (no_end.a_word kinds.Begin) (closed-block NoEnd no_end b))))

pub ruleset end_walks = (append_assoc, append-nil, collect_end_names-append, collect_end_names-each_push, take_at_read, take_all, append_declaration_end_names, append_procedure_end_names, append_module_end_names)
