-- The grammar of declarations and modules, a reader for each production (Oberon-07 report, sections 5, 7, 10 and 11).
use Rattle.std.specs.Prelude.{◌≡◌, ◌<◌, ℕ, zero, suc, List, length, Option, Some, None, Result, Ok, Err, Bool, true, false}
use Rattle.ob_scan.specs.declared.kind.Kind.{Kind}
use Rattle.ob_scan.specs.declared.kind.Kind.TheVariants as kinds
use Rattle.ob_tree.specs.declared.token.Leaf.{Leaf}
use Rattle.ob_tree.specs.declared.token.Leaf.TheVariants as leafs
use Rattle.ob_tree.specs.Constructs as constructs
use Rattle.ob_tree.specs.TreeEvents.{Events, aliased, imported, named, repeated}
use Rattle.ob_grammar.specs.Lookahead.{uncons, is_word}
use Rattle.ob_grammar.specs.Combinators.{ReadError, Unexpected, ◌>>=◌, Reader, expect_at, accept_at, name_at, identifier_at, after_name, begins, seq, prefixed, node, optional, many, several, limit_at}
use Rattle.ob_grammar.specs.ReadNames.{identdef_after, identdef_at}
use Rattle.ob_grammar.specs.ReadExpressions.{expr_at}
use Rattle.ob_grammar.specs.ReadStatements.{block_at}
use Rattle.ob_grammar.specs.ReadTypes.{optional_parameters_at, var_with, type_at}

-- the token is an identifier
abbrev pub is_identifier : Leaf → Bool
is_identifier (leafs.Name n) = true
is_identifier (leafs.Value k n) = false
is_identifier (leafs.Word k) = false

-- ConstDeclaration = identdef "=" expression
unfoldable pub const_with : Reader → Reader
const_with expr = node constructs.ConstDeclaration (seq identdef_at (seq (expect_at kinds.Equals) expr))

-- TypeDeclaration = identdef "=" type
unfoldable pub type_decl_with : Reader → Reader
type_decl_with type = node constructs.TypeDeclaration (seq identdef_at (seq (expect_at kinds.Equals) type))

-- VariableDeclaration = IdentList ":" type
unfoldable pub variable_with : Reader → Reader
variable_with type = node constructs.VariableDeclaration (var_with type)

-- the reader takes one token or more
abbrev pub ConsumesToken : Reader → Type 0
ConsumesToken r = (ls : List Leaf) (x : Events × List Leaf) → r ls ≡ Ok x → length x.1 < length ls

-- a declaration and its semicolon
abbrev pub with_semicolon : Reader → Reader
with_semicolon r = seq r (expect_at kinds.Semicolon)

-- a keyword and the declarations of its section, each of which a semicolon ends
unfoldable pub section_with : Kind → Reader → Reader
section_with k r = optional (accept_at k) (many (begins is_identifier) (with_semicolon r))

-- {ProcedureDeclaration ";"}
unfoldable pub procedures_with : Reader → Reader
procedures_with procedure = many (begins (is_word kinds.Procedure)) (with_semicolon procedure)

-- DeclarationSequence = [CONST {ConstDeclaration ";"}] [TYPE {TypeDeclaration ";"}] [VAR {VariableDeclaration ";"}]
--   {ProcedureDeclaration ";"}
unfoldable pub declarations_with : Reader → Reader → Reader → Reader
declarations_with expr type procedure = seq (section_with kinds.Const (const_with expr)) (seq (section_with kinds.Type (type_decl_with type)) (seq (section_with kinds.Var (variable_with type)) (procedures_with procedure)))

-- [BEGIN StatementSequence]
unfoldable pub body_with : Reader → Reader
body_with block = optional (accept_at kinds.Begin) block

-- a procedure after PROCEDURE and the name with this index
unfoldable pub procedure_named : Reader → Reader → Reader → ℕ → Reader
procedure_named expr block declarations n = seq (identdef_after n) (seq optional_parameters_at (seq (expect_at kinds.Semicolon) (seq declarations (seq (body_with block) (seq (optional (accept_at kinds.Return) expr) (seq (expect_at kinds.End) (name_at (repeated n))))))))

-- an identifier with the event of this role, and a reader that depends on its index
abbrev pub name_then : (ℕ → Events) → (ℕ → Reader) → Reader
name_then role r ls = do
  a ← identifier_at ls
  prefixed (role a.0) (r a.0) a.1

-- ProcedureDeclaration = PROCEDURE identdef [FormalParameters] ";" DeclarationSequence [BEGIN StatementSequence]
--   [RETURN expression] END ident
unfoldable pub procedure_with : Reader → Reader → Reader → Reader
procedure_with expr block declarations = node constructs.ProcedureDeclaration (seq (expect_at kinds.Procedure) (after_name (procedure_named expr block declarations)))

-- a procedure for which n levels are left, itself one of them
unfoldable pub procedure_at : ℕ → Reader
procedure_at zero = limit_at (is_word kinds.Procedure)
procedure_at (suc d) = procedure_with (expr_at d) (block_at d) (declarations_with (expr_at d) (type_at d) (procedure_at d))

-- declarations, with n levels left for the constructs in them
abbrev pub declarations_at : ℕ → Reader
declarations_at d = declarations_with (expr_at d) (type_at d) (procedure_at d)

-- import = ident [":=" ident]
unfoldable pub import_item_at : Reader
import_item_at = node constructs.Import (seq (name_at aliased) (optional (accept_at kinds.Assign) (name_at imported)))

-- [IMPORT import {"," import} ";"]
unfoldable pub imports_at : Reader
imports_at = optional (accept_at kinds.Import) (seq (several kinds.Comma import_item_at) (expect_at kinds.Semicolon))

-- a module after MODULE and the name with this index
unfoldable pub module_after_name : ℕ → ℕ → Reader
module_after_name d n = seq (expect_at kinds.Semicolon) (seq imports_at (seq (declarations_at d) (seq (body_with (block_at d)) (seq (expect_at kinds.End) (seq (name_at (repeated n)) (expect_at kinds.Dot))))))

-- module = MODULE ident ";" [ImportList] DeclarationSequence [BEGIN StatementSequence] END ident "."
unfoldable pub module_at : ℕ → Reader
module_at d = node constructs.Module (seq (expect_at kinds.Module) (name_then named (module_after_name d)))

-- the events, if no token is left
abbrev pub nothing_left : Events → Option (Leaf × List Leaf) → Result Events ReadError
nothing_left o None = Ok o
nothing_left o (Some x) = Err (Unexpected (Some x))

-- all tokens, as one module
unfoldable pub read_all : ℕ → List Leaf → Result Events ReadError
read_all d ls = do
  a ← module_at d ls
  nothing_left a.0 (uncons a.1)
