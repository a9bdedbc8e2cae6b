-- The grammar of types, a reader for each production (Oberon-07 report, sections 6 and 10.1).
use Rattle.std.specs.Prelude.{ℕ, zero, suc, List, Option, Some, None, Err, Bool, true, false}
use Rattle.ob_scan.specs.declared.kind.Kind.TheVariants as kinds
use Rattle.ob_tree.specs.declared.token.Leaf.{Leaf}
use Rattle.ob_tree.specs.declared.token.Leaf.TheVariants as leafs
use Rattle.ob_tree.specs.Constructs as constructs
use Rattle.ob_tree.specs.TreeEvents.{Events, word, declared}
use Rattle.ob_grammar.specs.Lookahead.{uncons, is_word}
use Rattle.ob_grammar.specs.Combinators.{Unexpected, Read, Reader, Lookahead, Start, expect_at, accept_at, name_at, begins, unless, nothing, seq, prefixed, node, optional, many, several, limit_at}
use Rattle.ob_grammar.specs.ReadNames.{qualident_after, qualident_at, identdef_at}
use Rattle.ob_grammar.specs.ReadExpressions.{expr_at}

-- the tokens that a type begins with
abbrev pub type_first : Leaf → Bool
type_first (leafs.Name n) = true
type_first (leafs.Word kinds.Array) = true
type_first (leafs.Word kinds.Record) = true
type_first (leafs.Word kinds.Pointer) = true
type_first (leafs.Word kinds.Procedure) = true
type_first l = false

-- FPSection = [VAR] ident {"," ident} ":" {ARRAY OF} qualident
unfoldable pub section_at : Reader
section_at = node constructs.FPSection (seq (optional (accept_at kinds.Var) nothing) (seq (several kinds.Comma (name_at (declared false))) (seq (expect_at kinds.Colon) (seq (many (accept_at kinds.Array) (expect_at kinds.Of)) qualident_at))))

-- FormalParameters = "(" [FPSection {";" FPSection}] ")" [":" qualident]
unfoldable pub parameters_at : Reader
parameters_at = seq (expect_at kinds.LeftParen) (seq (optional (unless kinds.RightParen) (several kinds.Semicolon section_at)) (seq (expect_at kinds.RightParen) (optional (accept_at kinds.Colon) qualident_at)))

-- [FormalParameters]
unfoldable pub optional_parameters_at : Reader
optional_parameters_at = optional (begins (is_word kinds.LeftParen)) parameters_at

-- IdentList ":" type
unfoldable pub var_with : Reader → Reader
var_with type = seq (several kinds.Comma identdef_at) (seq (expect_at kinds.Colon) type)

-- a semicolon before an identifier, with which a further field list begins
abbrev pub after_semicolon : List Leaf → Option (Leaf × List Leaf) → Lookahead Events
after_semicolon ls (Some (leafs.Name n, rest)) = Some (word kinds.Semicolon, ls)
after_semicolon ls _ = None

abbrev pub field_lookahead : Option (Leaf × List Leaf) → Lookahead Events
field_lookahead (Some (leafs.Word kinds.Semicolon, rest)) = after_semicolon rest (uncons rest)
field_lookahead _ = None

unfoldable pub field_start : Start
field_start ls = field_lookahead (uncons ls)

-- FieldList {";" FieldList} [";"]
unfoldable pub fields_with : Reader → Reader
fields_with type = seq (node constructs.FieldList (var_with type)) (seq (many field_start (node constructs.FieldList (var_with type))) (optional (accept_at kinds.Semicolon) nothing))

-- the part of a type after RECORD: ["(" qualident ")"] [FieldList {";" FieldList} [";"]] END
unfoldable pub record_with : Reader → Reader
record_with type = seq (optional (accept_at kinds.LeftParen) (seq qualident_at (expect_at kinds.RightParen))) (seq (optional (unless kinds.End) (fields_with type)) (expect_at kinds.End))

-- type = qualident | ARRAY expression {"," expression} OF type | RECORD .. END | POINTER TO type | PROCEDURE [FormalParameters]
abbrev pub type_from : Reader → Reader → Option (Leaf × List Leaf) → Read
type_from expr type (Some (leafs.Name n, rest)) = node constructs.NamedType (qualident_after n) rest
type_from expr type (Some (leafs.Word kinds.Array, rest)) = node constructs.ArrayType (prefixed (word kinds.Array) (seq (several kinds.Comma expr) (seq (expect_at kinds.Of) type))) rest
type_from expr type (Some (leafs.Word kinds.Record, rest)) = node constructs.RecordType (prefixed (word kinds.Record) (record_with type)) rest
type_from expr type (Some (leafs.Word kinds.Pointer, rest)) = node constructs.PointerType (prefixed (word kinds.Pointer) (seq (expect_at kinds.To) type)) rest
type_from expr type (Some (leafs.Word kinds.Procedure, rest)) = node constructs.ProcedureType (prefixed (word kinds.Procedure) optional_parameters_at) rest
type_from expr type o = Err (Unexpected o)

unfoldable pub type_with : Reader → Reader → Reader
type_with expr type ls = type_from expr type (uncons ls)

-- a type for which n levels are left, itself one of them
unfoldable pub type_at : ℕ → Reader
type_at zero = limit_at type_first
type_at (suc d) = type_with (expr_at d) (type_at d)
