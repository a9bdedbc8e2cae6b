-- The entries of declarations and modules, a step for each production (Oberon-07 report, sections 5, 7, 10 and 11).
use Rattle.std.specs.Prelude.{ℕ, ◌+◌, List, Option, Some, None, false}
use Rattle.ob_tree.specs.declared.name.OneOrMore.{OneOrMore}
use Rattle.ob_tree.specs.declared.declaration.ConstDecl.{ConstDecl}
use Rattle.ob_tree.specs.declared.declaration.TypeDecl.{TypeDecl}
use Rattle.ob_tree.specs.declared.declaration.VarDecl.{VarDecl}
use Rattle.ob_tree.specs.declared.declaration.ImportItem.{ImportItem}
use Rattle.ob_tree.specs.declared.declaration.Module.{Module}
use Rattle.ob_tree.specs.declared.declaration.Declarations.{Declarations, Declarations-F, fold-Declarations}
use Rattle.ob_tree.specs.declared.declaration.ProcDecl.{ProcDecl, ProcDecl-F, fold-ProcDecl}
use Rattle.module_table.specs.declared.rows.DeclKind.TheVariants as decl_kinds
use Rattle.module_table.specs.declared.builder.Context.{Context}
use Rattle.module_table.specs.Parts.{Fragment, Rows, one_end, one_import, token, both, with_rows, if_present, each, declaring, opens_block}
use Rattle.table_rules.specs.Expressions.{each_after, expr_rows}
use Rattle.table_rules.specs.Statements.{block_rows}
use Rattle.table_rules.specs.Types.{declared_row, identdef_rows, parameters_rows, type_rows, var_rows}

-- ConstDeclaration = identdef "=" expression
unfoldable pub const_rows : ConstDecl → Fragment
const_rows c = declaring decl_kinds.Constant (both (identdef_rows c.name) (both token (expr_rows c.value)))

-- TypeDeclaration = identdef "=" type
unfoldable pub type_decl_rows : TypeDecl → Fragment
type_decl_rows t = declaring decl_kinds.Type (both (identdef_rows t.name) (both token (type_rows t.type_expr)))

-- VariableDeclaration = IdentList ":" type
unfoldable pub variable_rows : VarDecl → Fragment
variable_rows v = declaring decl_kinds.Variable (var_rows v)

-- a keyword and the declarations of its section, each of which a semicolon ends
abbrev pub part : {X : Type 0} → (X → Fragment) → List X → Fragment
part f xs = both token (each (λ x. both (f x) token) xs)

-- the entry of a name after END: of a procedure, whose name has to be repeated, and of the module
abbrev pub procedure_end : Context → ℕ → Rows
procedure_end c k = one_end (record { number = k; of = Some (c.decl_group + 1) })

abbrev pub module_end : Context → ℕ → Rows
module_end c k = one_end (record { number = k; of = None })

-- Each `.._step` below gives the entries of a node from the entries of its children.

-- DeclarationSequence = [CONST {ConstDeclaration ";"}] [TYPE {TypeDeclaration ";"}] [VAR {VariableDeclaration ";"}]
--   {ProcedureDeclaration ";"}
abbrev pub declarations_step : Declarations-F Fragment Fragment → Fragment
declarations_step d =
    both (if_present (λ v. part const_rows v.items) d.constants) (
    both (if_present (λ v. part type_decl_rows v.items) d.types) (
    both (if_present (λ v. part variable_rows v.items) d.variables) (each (λ p. both p token) d.procedures.items)))

-- ProcedureDeclaration = PROCEDURE identdef [FormalParameters] ";" DeclarationSequence [BEGIN StatementSequence]
--   [RETURN expression] END ident
abbrev pub procedure_step : ProcDecl-F Fragment Fragment → Fragment
procedure_step p = declaring decl_kinds.Procedure (opens_block (
    both token (both (identdef_rows p.name) (both (if_present parameters_rows p.parameters) (both token
    (both p.declarations (both (if_present (λ b. both token (block_rows b.value)) p.body)
    (both (if_present (λ e. both token (expr_rows e.value)) p.returned) (both token (with_rows procedure_end token))))))))))

unfoldable pub declarations_rows : Declarations → Fragment
declarations_rows = fold-Declarations Fragment Fragment declarations_step procedure_step

unfoldable pub procedure_rows : ProcDecl → Fragment
procedure_rows = fold-ProcDecl Fragment Fragment declarations_step procedure_step

-- the index of the name of the imported module: the identifier after `:=`, or the first one if there is no alias
abbrev pub named_by : Option ℕ → ℕ → ℕ
named_by None k = k
named_by (Some m) k = k + 2

-- import = ident [":=" ident]
abbrev pub import_row : ImportItem → Context → ℕ → Rows
import_row i c k = one_import (record { alias = k; imported = named_by i.of k })

unfoldable pub import_inner : ImportItem → Fragment
import_inner i = with_rows (import_row i) (with_rows (declared_row false) (both token (if_present (λ m. both token token) i.of)))

unfoldable pub import_rows : ImportItem → Fragment
import_rows i = declaring decl_kinds.Import (import_inner i)

-- IMPORT import {"," import} ";"
unfoldable pub imports_rows : OneOrMore ImportItem → Fragment
imports_rows l = both token (both (import_rows l.first) (both (each_after import_rows l.rest.items) token))

-- module = MODULE ident ";" [IMPORT import {"," import} ";"] DeclarationSequence [BEGIN StatementSequence] END ident "."
unfoldable pub module_rows : Module → Fragment
module_rows m =
    both token (both token (both token (
    both (if_present imports_rows m.imports) (
    both (declarations_rows m.declarations) (both (if_present (λ b. both token (block_rows b)) m.body) (both token (both (with_rows module_end token) token)))))))

-- the context of the fragments of a module: the module's block
abbrev pub outermost : Context
outermost = record { block = 0; decl_group = 0; of_record = 0; is_target = false }

-- the entries of a module
abbrev pub rows_of : Module → Rows
rows_of m = (module_rows m).rows outermost 0
