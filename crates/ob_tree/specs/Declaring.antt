-- The event sequences of declarations and modules, one definition for each production (Oberon-07 report, sections 5, 7, 10 and 11).
use Rattle.std.specs.Prelude.{List, ◌++◌}
use Rattle.ob_scan.specs.declared.kind.Kind.{Kind}
use Rattle.ob_scan.specs.declared.kind.Kind.TheVariants as kinds
use Rattle.ob_tree.specs.declared.declaration.ConstDecl.{ConstDecl}
use Rattle.ob_tree.specs.declared.declaration.TypeDecl.{TypeDecl}
use Rattle.ob_tree.specs.declared.declaration.VarDecl.{VarDecl}
use Rattle.ob_tree.specs.declared.declaration.ImportItem.{ImportItem}
use Rattle.ob_tree.specs.declared.declaration.Module.{Module}
use Rattle.ob_tree.specs.declared.declaration.Declarations.{Declarations, Declarations-F, fold-Declarations}
use Rattle.ob_tree.specs.declared.declaration.ProcDecl.{ProcDecl, ProcDecl-F, fold-ProcDecl}
use Rattle.ob_tree.specs.Constructs as constructs
use Rattle.ob_tree.specs.TreeEvents.{Events, construct, word, aliased, imported, named, repeated, if_present, each, separated}
use Rattle.ob_tree.specs.Names.{identdef_events}
use Rattle.ob_tree.specs.Expressions.{expr_events}
use Rattle.ob_tree.specs.Statements.{block_events}
use Rattle.ob_tree.specs.Types.{parameters_events, type_events, var_events}

-- ConstDeclaration = identdef "=" expression
unfoldable pub const_events : ConstDecl → Events
const_events c = construct constructs.ConstDeclaration (identdef_events c.name ++ (word kinds.Equals ++ expr_events c.value))

-- TypeDeclaration = identdef "=" type
unfoldable pub type_decl_events : TypeDecl → Events
type_decl_events t = construct constructs.TypeDeclaration (identdef_events t.name ++ (word kinds.Equals ++ type_events t.type_expr))

-- VariableDeclaration = IdentList ":" type
unfoldable pub variable_events : VarDecl → Events
variable_events v = construct constructs.VariableDeclaration (var_events v)

-- a section of declarations: its keyword, then each declaration followed by a semicolon
abbrev pub part : {X : Type 0} → Kind → (X → Events) → List X → Events
part k f xs = word k ++ each (λ x. f x ++ word kinds.Semicolon) xs

-- Each `.._step` below gives the event sequence of a node from the event sequences of its children.

-- DeclarationSequence = [CONST {ConstDeclaration ";"}] [TYPE {TypeDeclaration ";"}] [VAR {VariableDeclaration ";"}]
--   {ProcedureDeclaration ";"}
abbrev pub declarations_step : Declarations-F Events Events → Events
declarations_step d =
    if_present (λ v. part kinds.Const const_events v.items) d.constants ++
    (if_present (λ v. part kinds.Type type_decl_events v.items) d.types ++
    (if_present (λ v. part kinds.Var variable_events v.items) d.variables ++ each (λ p. p ++ word kinds.Semicolon) d.procedures.items))

-- ProcedureDeclaration = PROCEDURE identdef [FormalParameters] ";" DeclarationSequence [BEGIN StatementSequence]
--   [RETURN expression] END ident
abbrev pub procedure_step : ProcDecl-F Events Events → Events
procedure_step p = construct constructs.ProcedureDeclaration (
    word kinds.Procedure ++ (identdef_events p.name ++ (if_present parameters_events p.parameters ++ (word kinds.Semicolon ++
    (p.declarations ++ (if_present (λ b. word kinds.Begin ++ block_events b.value) p.body ++
    (if_present (λ e. word kinds.Return ++ expr_events e.value) p.returned ++
    (word kinds.End ++ repeated p.name.name p.end_name))))))))

-- the events of a declaration sequence and of a procedure, by folding the steps over the tree
unfoldable pub declarations_events : Declarations → Events
declarations_events = fold-Declarations Events Events declarations_step procedure_step

unfoldable pub procedure_events : ProcDecl → Events
procedure_events = fold-ProcDecl Events Events declarations_step procedure_step

-- import = ident [":=" ident]
unfoldable pub import_events : ImportItem → Events
import_events i = construct constructs.Import (aliased i.name ++ if_present (λ m. word kinds.Assign ++ imported m) i.of)

-- module = MODULE ident ";" [IMPORT import {"," import} ";"] DeclarationSequence [BEGIN StatementSequence] END ident "."
unfoldable pub module_events : Module → Events
module_events m = construct constructs.Module (
    word kinds.Module ++ (named m.name ++ (word kinds.Semicolon ++
    (if_present (λ l. word kinds.Import ++ (separated kinds.Comma import_events l ++ word kinds.Semicolon)) m.imports ++
    (declarations_events m.declarations ++ (if_present (λ b. word kinds.Begin ++ block_events b) m.body ++ (word kinds.End ++
    (repeated m.name m.end_name ++ word kinds.Dot))))))))
