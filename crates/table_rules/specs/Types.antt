-- The entries of types, a step for each production (Oberon-07 report, sections 6 and 10.1).
use Rattle.std.specs.Prelude.{ℕ, zero, suc, ◌+◌, Option, Some, None, true, false, Bool}
use Rattle.ob_tree.specs.declared.name.Identdef.{Identdef}
use Rattle.ob_tree.specs.declared.name.Qualident.{Qualident}
use Rattle.ob_tree.specs.declared.declaration.ParameterSection.{ParameterSection}
use Rattle.ob_tree.specs.declared.declaration.Parameters.{Parameters}
use Rattle.ob_tree.specs.declared.declaration.TypeForm.{TypeForm, TypeForm-F, fold-TypeForm}
use Rattle.ob_tree.specs.declared.declaration.TypeForm.TheOpen as layers
use Rattle.ob_tree.specs.declared.declaration.Fields.{Fields, Fields-F, fold-Fields}
use Rattle.ob_tree.specs.declared.declaration.Record.{Record, Record-F, fold-Record}
use Rattle.ob_tree.specs.declared.declaration.VarDecl.{VarDecl, VarDecl-F, fold-VarDecl}
use Rattle.ob_tree.specs.declared.expression.ExprList.{ExprList, out-ExprList}
use Rattle.module_table.specs.declared.rows.DeclKind.TheVariants as decl_kinds
use Rattle.module_table.specs.declared.rows.Part.{Part}
use Rattle.module_table.specs.declared.rows.Part.TheVariants as parts
use Rattle.module_table.specs.declared.rows.TypeName.{TypeName}
use Rattle.module_table.specs.declared.builder.Context.{Context}
use Rattle.module_table.specs.Parts.{Fragment, Rows, one_declared, one_part, one_record, one_used, nothing, token, both, with_rows, within, if_present, if_true, each, declaring, opens_block}
use Rattle.table_rules.specs.Expressions.{after_dot, each_after, expr_rows}
use Rattle.table_rules.specs.Statements.{qualident_rows}

-- an identifier that is declared at this token
abbrev pub declared_row : Bool → Context → ℕ → Rows
declared_row exported c k = one_declared (record { number = k; exported = exported; declared_by = c.decl_group })

-- identdef = ident ["*"]
unfoldable pub identdef_rows : Identdef → Fragment
identdef_rows i = with_rows (declared_row i.is_exported) (both token (if_true i.is_exported token))

-- the name of a parameter, which is never exported
unfoldable pub parameter_rows : Fragment
parameter_rows = with_rows (declared_row false) token

-- a component of the declared type that begins at this token
abbrev pub part_row : Part → Context → ℕ → Rows
part_row p c k = one_part (record { declared_by = c.decl_group; number = k; part = p })

-- the name that ends the declared type, as a component at this token
abbrev pub name_part : Qualident → Context → ℕ → Rows
name_part q c k = one_part (record { declared_by = c.decl_group; number = k; part = parts.Named (after_dot q.member k) })

-- n times ARRAY OF
abbrev pub open_arrays : ℕ → Fragment
open_arrays zero = nothing
open_arrays (suc n) = both (with_rows (part_row parts.Array) (both token token)) (open_arrays n)

-- FPSection = [VAR] ident {"," ident} ":" {ARRAY OF} qualident
unfoldable pub section_inner : ParameterSection → Fragment
section_inner s =
    both (if_true s.variable token) (both parameter_rows (both (each_after (λ n. parameter_rows) s.names.rest.items) (both token
    (both (open_arrays s.open_arrays) (with_rows (name_part s.of) (qualident_rows s.of))))))

unfoldable pub section_rows : ParameterSection → Fragment
section_rows s = declaring decl_kinds.Parameter (section_inner s)

-- FormalParameters = "(" [FPSection {";" FPSection}] ")" [":" qualident]
unfoldable pub parameters_rows : Parameters → Fragment
parameters_rows p = both token (
    both (if_present (λ l. both (section_rows l.first) (each_after section_rows l.rest.items)) p.sections) (both token
    (if_present (λ q. both token (qualident_rows q)) p.result)))

-- whether a name as a type is the target of a pointer: only an unqualified name directly after POINTER TO is
abbrev pub is_target_name : Option ℕ → Bool → Bool
is_target_name None is_target = is_target
is_target_name (Some m) is_target = false

-- the use of a name as a type
abbrev pub type_use_row : Qualident → Context → ℕ → Rows
type_use_row q c k = one_used (record { number = k; block = c.block; is_target = is_target_name q.member c.is_target; member = after_dot q.member k })

unfoldable pub type_name_rows : Qualident → Fragment
type_name_rows q = with_rows (name_part q) (with_rows (type_use_row q) (both token (if_present (λ m. both token token) q.member)))

-- expression {"," expression}, the lengths of an array: each further length is an array of its own
unfoldable pub lengths_rows : ExprList → Fragment
lengths_rows l = both (expr_rows (out-ExprList l).first) (each (λ e. both (with_rows (part_row parts.Array) token) (expr_rows e)) (out-ExprList l).rest.items)

-- the context of the type after POINTER TO, and of the type after OF
abbrev pub in_pointer : Context → ℕ → Context
in_pointer c k = record { block = c.block; decl_group = c.decl_group; of_record = c.of_record; is_target = true }

abbrev pub in_array : Context → ℕ → Context
in_array c k = record { block = c.block; decl_group = c.decl_group; of_record = c.of_record; is_target = false }

-- the context of the fields of a record that begins at this token
abbrev pub in_record : Context → ℕ → Context
in_record c k = record { block = c.block; decl_group = c.decl_group; of_record = k; is_target = false }

-- the name of the base of a record, whose RECORD and parenthesis precede it
abbrev pub base_of : Option Qualident → ℕ → Option TypeName
base_of None k = None
base_of (Some q) k = Some (record { head = k + 2; member = after_dot q.member (k + 2) })

-- a record that begins at this token, with its owner and its base
abbrev pub record_row : Option Qualident → Context → ℕ → Rows
record_row base c k = one_record (record { number = k; owner = c.decl_group; base = base_of base k })

-- Each `.._step` below gives the entries of a node from the entries of its children.

-- type = qualident | ArrayType | RecordType | PointerType | ProcedureType
-- ArrayType = ARRAY expression {"," expression} OF type
-- PointerType = POINTER TO type
-- ProcedureType = PROCEDURE [FormalParameters]
abbrev pub type_step : TypeForm-F Fragment Fragment Fragment Fragment → Fragment
type_step (layers.Named q) = type_name_rows q
type_step (layers.ArrayOf lengths of) =
    with_rows (part_row parts.Array) (both token (both (lengths_rows lengths.value) (both token (within in_array of.value))))
type_step (layers.RecordOf r) = with_rows (part_row parts.Record) r
type_step (layers.PointerTo t) = with_rows (part_row parts.Pointer) (both token (both token (within in_pointer t.value)))
type_step (layers.ProcOf p) = with_rows (part_row parts.Procedure) (opens_block (both token (if_present parameters_rows p)))

-- FieldList {";" FieldList} [";"]; the last semicolon is not in the report
abbrev pub fields_step : Fields-F Fragment Fragment Fragment Fragment → Fragment
fields_step f =
    both (declaring decl_kinds.Field f.first)
    (both (each_after (declaring decl_kinds.Field) f.rest.items) (if_true f.closing_semicolon token))

-- RecordType = RECORD ["(" qualident ")"] [FieldList {";" FieldList} [";"]] END
abbrev pub record_step : Record-F Fragment Fragment Fragment Fragment → Fragment
record_step r = with_rows (record_row r.base) (within in_record (
    both token (both (if_present (λ q. both token (both (qualident_rows q) token)) r.base)
    (both (if_present (λ f. f.value) r.fields) token))))

-- FieldList = IdentList ":" type; VariableDeclaration = IdentList ":" type
abbrev pub var_step : VarDecl-F Fragment Fragment Fragment Fragment → Fragment
var_step v = both (identdef_rows v.names.first) (both (each_after identdef_rows v.names.rest.items) (both token v.type_expr))

unfoldable pub type_rows : TypeForm → Fragment
type_rows = fold-TypeForm Fragment Fragment Fragment Fragment type_step fields_step record_step var_step

unfoldable pub fields_rows : Fields → Fragment
fields_rows = fold-Fields Fragment Fragment Fragment Fragment type_step fields_step record_step var_step

unfoldable pub record_rows : Record → Fragment
record_rows = fold-Record Fragment Fragment Fragment Fragment type_step fields_step record_step var_step

unfoldable pub var_rows : VarDecl → Fragment
var_rows = fold-VarDecl Fragment Fragment Fragment Fragment type_step fields_step record_step var_step
