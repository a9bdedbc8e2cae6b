-- The piece of a type and its event sequence have the same tokens, and its entries name each identifier.
use Rattle.std.proofs.Common.{ℕ, zero, suc, false, ◌++◌, refl}
use Rattle.ob_scan.specs.declared.kind.Kind.TheVariants as kinds
use Rattle.ob_tree.specs.declared.declaration.Parameters.{Parameters}
use Rattle.ob_tree.specs.declared.declaration.TypeForm.TheOpen as layers
use Rattle.ob_tree.specs.declared.declaration.TypeForm.{TypeForm}
use Rattle.ob_tree.specs.declared.declaration.VarDecl.{VarDecl}
use Rattle.ob_tree.specs.Constructs as constructs
use Rattle.ob_tree.specs.declared.name.Identdef.{Identdef}
use Rattle.ob_tree.specs.TreeEvents.{construct, word, declared, if_present, separated, times}
use Rattle.ob_tree.specs.Names.{qualident_events, identdef_events}
use Rattle.ob_tree.specs.Types.{section_events, parameters_events, type_events, fields_events, record_events, var_events}
use Rattle.ob_tree.proofs.TypeLayers.{type_shown, fields_shown, record_shown, var_shown, type_rolled, fields_rolled, record_rolled, var_rolled}
use Rattle.ob_tree.proofs.TypeInduction.{TypePredicates, TypeSteps, WithType, WithFields, WithRecord, WithVar, type_of, fields_of, record_of, var_of, record_fields, type_induction, var_induction}
use Rattle.ob_tree.specs.declared.name.Qualident.{Qualident}
use Rattle.ob_tree.specs.declared.expression.ExprList.{ExprList, out-ExprList}
use Rattle.ob_tree.specs.declared.declaration.ParameterSection.{ParameterSection}
use Rattle.ob_tree.specs.Expressions.{expr_events, expr_list_events}
use Rattle.ob_tree.proofs.ExpressionLayers.{expr_list_out}
use Rattle.module_table.specs.declared.rows.DeclKind.TheVariants as decl_kinds
use Rattle.module_table.specs.declared.rows.Part.TheVariants as parts
use Rattle.module_table.specs.Parts.{token, both, with_rows, declaring}
use Rattle.module_table.specs.Parts.{if_present as there}
use Rattle.table_rules.specs.Expressions.{each_after, expr_rows}
use Rattle.table_rules.specs.Statements.{qualident_rows}
use Rattle.table_rules.specs.Types.{is_target_name, part_row, open_arrays, section_inner, section_rows, identdef_rows, parameter_rows, parameters_rows, type_name_rows, lengths_rows, type_rows, fields_rows, record_rows, var_rows}
use Rattle.table_rules.proofs.TypeLayers as told
use Rattle.table_rules.proofs.Mirrored.{declares_it}
use Rattle.table_rules.proofs.Compatible.{c-each, c-map, c-separated, c-there, c-three, related-is}
use Rattle.table_rules.proofs.Named.{Named, n-nothing, n-word, n-declared, n-both, n-first_declares, n-type_use_row, n-held, n-with_rows, n-within, n-declaring, n-opens_block, n-so}
use Rattle.table_rules.proofs.NamedExpressions.{named, n-expr}
use Rattle.table_rules.proofs.NamedStatements.{n-qualident}

-- ---- names and parameters

pub n-identdef : (i : Identdef) → Named (identdef_rows i) (identdef_events i)
unfolding identdef_rows identdef_events
n-identdef i = n-first_declares i.is_exported (declares_it i.is_exported) refl i.name (n-so i.is_exported (n-word kinds.Star))

n-parameter : (n : ℕ) → Named parameter_rows (declared false n)
unfolding parameter_rows
n-parameter n = n-declared false n

n-type_name : (q : Qualident) → Named (type_name_rows q) (qualident_events q)
unfolding type_name_rows qualident_events
n-type_name q = n-with_rows _ (λ c k. refl) (n-type_use_row (λ m c. is_target_name m c.is_target) q.member q.head)

n-arrays : (n : ℕ) → Named (open_arrays n) (times n (word kinds.Array ++ word kinds.Of))
n-arrays zero = n-nothing
n-arrays (suc n) = n-both (n-with_rows _ (λ c k. refl) (n-both (n-word kinds.Array) (n-word kinds.Of))) (n-arrays n)

n-section : (s : ParameterSection) → Named (section_rows s) (section_events s)
unfolding section_rows section_inner section_events
n-section s = n-held constructs.FPSection (n-declaring decl_kinds.Parameter (n-both (n-so s.variable (n-word kinds.Var)) (c-three named (n-parameter s.names.first)
    (c-each named (λ n. both token parameter_rows) (λ n. word kinds.Comma ++ declared false n) s.names.rest.items (λ n. n-both (n-word kinds.Comma) (n-parameter n)))
    (n-both (n-word kinds.Colon) (n-both (n-arrays s.open_arrays) (n-with_rows _ (λ c k. refl) (n-qualident s.of)))))))

pub n-parameters : (p : Parameters) → Named (parameters_rows p) (parameters_events p)
unfolding parameters_rows parameters_events
n-parameters p =
    n-both (n-word kinds.LeftParen) (n-both (c-there named (λ l. both (section_rows l.first) (each_after section_rows l.rest.items)) (separated kinds.Semicolon section_events) p.sections (λ l. c-separated named kinds.Semicolon section_rows section_events l n-section))
    (n-both (n-word kinds.RightParen) (c-there named (λ q. both token (qualident_rows q)) (λ q. word kinds.Colon ++ qualident_events q) p.result (λ q. n-both (n-word kinds.Colon) (n-qualident q)))))

n-lengths : (l : ExprList) → Named (lengths_rows l) (expr_list_events l)
n-lengths l = related-is Named (told.lengths_out l) (expr_list_out l)
    (n-both (n-expr (out-ExprList l).first) (c-each named (λ e. both (with_rows (part_row parts.Array) token) (expr_rows e)) (λ e. word kinds.Comma ++ expr_events e) (out-ExprList l).rest.items
    (λ e. n-both (n-with_rows _ (λ c k. refl) (n-word kinds.Comma)) (n-expr e))))

-- each part mirrors its event sequence

abbrev predicates : TypePredicates
predicates = record {
  type = λ t. Named (type_rows t) (type_events t);
  fields = λ t. Named (fields_rows t) (fields_events t);
  record_type = λ t. Named (record_rows t) (record_events t);
  var = λ t. Named (var_rows t) (var_events t);
}

type_held : (y : WithType predicates) → Named (told.type_shown (type_of predicates y)) (type_shown (type_of predicates y))
type_held (layers.Named q) = n-held constructs.NamedType (n-type_name q)
type_held (layers.ArrayOf lengths of) = n-held constructs.ArrayType (n-with_rows _ (λ c k. refl)
    (n-both (n-word kinds.Array) (n-both (n-lengths lengths.value) (n-both (n-word kinds.Of) (n-within _ of.value.1)))))
type_held (layers.RecordOf r) = n-held constructs.RecordType (n-with_rows _ (λ c k. refl) r.1)
type_held (layers.PointerTo t) = n-held constructs.PointerType (n-with_rows _ (λ c k. refl) (n-both (n-word kinds.Pointer) (n-both (n-word kinds.To) (n-within _ t.value.1))))
type_held (layers.ProcOf p) = n-held constructs.ProcedureType (n-with_rows _ (λ c k. refl) (n-opens_block (n-both (n-word kinds.Procedure) (c-there named parameters_rows parameters_events p n-parameters))))

fields_held : (y : WithFields predicates) → Named (told.fields_shown (fields_of predicates y)) (fields_shown (fields_of predicates y))
fields_held y =
    n-both (n-held constructs.FieldList (n-declaring decl_kinds.Field y.first.1))
    (n-both (c-map named (λ v. both token (declaring decl_kinds.Field (var_rows v))) (λ v. word kinds.Semicolon ++ construct constructs.FieldList (var_events v)) _ y.rest.items (λ v. n-both (n-word kinds.Semicolon) (n-held constructs.FieldList (n-declaring decl_kinds.Field v.1))))
    (n-so y.closing_semicolon (n-word kinds.Semicolon)))

record_held : (y : WithRecord predicates) → Named (told.record_shown (record_of predicates y)) (record_shown (record_of predicates y))
record_held y = n-with_rows _ (λ c k. refl) (n-within _
    (n-both (n-word kinds.Record)
    (n-both (c-there named (λ q. both token (both (qualident_rows q) token)) (λ q. word kinds.LeftParen ++ (qualident_events q ++ word kinds.RightParen)) y.base (λ q. n-both (n-word kinds.LeftParen) (n-both (n-qualident q) (n-word kinds.RightParen))))
    (n-both (record_fields predicates (λ o. Named (there (λ f. fields_rows f.value) o) (if_present (λ f. fields_events f.value) o)) n-nothing (λ f h. h) y) (n-word kinds.End)))))

var_held : (y : WithVar predicates) → Named (told.var_shown (var_of predicates y)) (var_shown (var_of predicates y))
var_held y = c-three named (n-identdef y.names.first)
    (c-each named (λ i. both token (identdef_rows i)) (λ i. word kinds.Comma ++ identdef_events i) y.names.rest.items (λ i. n-both (n-word kinds.Comma) (n-identdef i)))
    (n-both (n-word kinds.Colon) y.type_expr.1)

-- ---- layer by layer

steps : TypeSteps predicates
steps = record {
  type = λ y. related-is Named (told.type_rolled _) (type_rolled _) (type_held y);
  fields = λ y. related-is Named (told.fields_rolled _) (fields_rolled _) (fields_held y);
  record_type = λ y. related-is Named (told.record_rolled _) (record_rolled _) (record_held y);
  var = λ y. related-is Named (told.var_rolled _) (var_rolled _) (var_held y);
}

pub n-type : (t : TypeForm) → Named (type_rows t) (type_events t)
n-type = type_induction predicates steps

pub n-var : (v : VarDecl) → Named (var_rows v) (var_events v)
n-var = var_induction predicates steps
