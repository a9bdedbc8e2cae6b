-- The records in types.
use Rattle.std.proofs.Common.{ℕ, zero, suc, false, refl}
use Rattle.ob_tree.specs.declared.declaration.Parameters.{Parameters}
use Rattle.ob_tree.specs.declared.declaration.TypeForm.TheOpen as layers
use Rattle.ob_tree.specs.declared.declaration.TypeForm.{TypeForm}
use Rattle.ob_tree.specs.declared.declaration.VarDecl.{VarDecl}
use Rattle.ob_tree.specs.declared.name.Identdef.{Identdef}
use Rattle.ob_tree.proofs.TypeInduction.{TypePredicates, TypeSteps, WithType, WithFields, WithRecord, WithVar, type_of, fields_of, record_of, var_of, record_fields, type_induction, var_induction}
use Rattle.ob_tree.specs.declared.name.Qualident.{Qualident}
use Rattle.ob_tree.specs.declared.expression.ExprList.{ExprList, out-ExprList}
use Rattle.ob_tree.specs.declared.declaration.ParameterSection.{ParameterSection}
use Rattle.module_table.specs.declared.rows.DeclKind.TheVariants as decl_kinds
use Rattle.module_table.specs.declared.rows.Part.TheVariants as parts
use Rattle.module_table.specs.Parts.{token, both, with_rows, declaring}
use Rattle.module_table.specs.Parts.{if_present as there}
use Rattle.table_rules.specs.Expressions.{each_after, expr_rows}
use Rattle.table_rules.specs.Statements.{qualident_rows}
use Rattle.table_rules.specs.Types.{part_row, record_row, in_record, open_arrays, section_inner, section_rows, identdef_rows, parameter_rows, parameters_rows, type_name_rows, lengths_rows, type_rows, fields_rows, record_rows, var_rows}
use Rattle.table_rules.proofs.TypeLayers as told
use Rattle.table_laws.proofs.Bare.{Bare, b-is, b-nothing, b-token, b-both, b-with_rows, b-first, b-there, b-so, b-each, b-separated, b-declaring, b-opens_block, b-declared}
use Rattle.table_laws.proofs.BareExpressions.{b-expr}
use Rattle.table_laws.proofs.BareStatements.{b-qualident}
use Rattle.table_laws.proofs.Owned.{Declares, Free, Held, d-held, d-is, f-bare, f-both, f-declaring, f-is, f-map, h-bare, h-behind, h-is, h-record, h-with_rows, h-within}
use Rattle.std.proofs.Common.{◌<◌, arith}

-- ---- names and parameters

pub b-identdef : (i : Identdef) → Bare (identdef_rows i)
unfolding identdef_rows
b-identdef i = b-first _ (λ c k. refl) (b-so i.is_exported b-token)

b-parameter : (n : ℕ) → Bare parameter_rows
unfolding parameter_rows
b-parameter n = b-declared false

b-type_name : (q : Qualident) → Bare (type_name_rows q)
unfolding type_name_rows
b-type_name q = b-with_rows _ (λ c k. refl) (b-first _ (λ c k. refl) (b-there (λ m. both token token) q.member (λ m. b-both b-token b-token)))

b-arrays : (n : ℕ) → Bare (open_arrays n)
b-arrays zero = b-nothing
b-arrays (suc n) = b-both (b-with_rows _ (λ c k. refl) (b-both b-token b-token)) (b-arrays n)

b-section : (s : ParameterSection) → Bare (section_rows s)
unfolding section_rows section_inner
b-section s = (b-declaring decl_kinds.Parameter (b-both (b-so s.variable b-token) (b-both (b-parameter s.names.first) (b-both (b-each (λ n. both token parameter_rows) s.names.rest.items (λ n. b-both b-token (b-parameter n))) (b-both b-token (b-both (b-arrays s.open_arrays) (b-with_rows _ (λ c k. refl) (b-qualident s.of))))))))

pub b-parameters : (p : Parameters) → Bare (parameters_rows p)
unfolding parameters_rows
b-parameters p =
    b-both b-token (b-both (b-there (λ l. both (section_rows l.first) (each_after section_rows l.rest.items)) p.sections (λ l. b-separated section_rows l b-section)) (b-both b-token (b-there (λ q. both token (qualident_rows q)) p.result (λ q. b-both b-token (b-qualident q)))))

b-lengths : (l : ExprList) → Bare (lengths_rows l)
b-lengths l = b-is (told.lengths_out l) (b-both (b-expr (out-ExprList l).first) (b-each (λ e. both (with_rows (part_row parts.Array) token) (expr_rows e)) (out-ExprList l).rest.items (λ e. b-both (b-with_rows _ (λ c k. refl) b-token) (b-expr e))))

pub identdef_some : (i : Identdef) → 0 < (identdef_rows i).width
unfolding identdef_rows with_rows both token
identdef_some i = omega arith

-- ---- the owners of the records in each fragment

abbrev predicates : TypePredicates
predicates = record {
  type = λ t. Held (type_rows t);
  fields = λ t. Free (fields_rows t);
  record_type = λ t. Held (record_rows t);
  var = λ t. Declares (var_rows t);
}

type_held : (y : WithType predicates) → Held (told.type_shown (type_of predicates y))
type_held (layers.Named q) = h-bare (b-type_name q)
type_held (layers.ArrayOf lengths of) = h-with_rows _ (λ c k. refl) (h-behind b-token (h-behind (b-lengths lengths.value) (h-behind b-token (h-within _ (λ c k. refl) of.value.1))))
type_held (layers.RecordOf r) = h-with_rows _ (λ c k. refl) r.1
type_held (layers.PointerTo t) = h-with_rows _ (λ c k. refl) (h-behind b-token (h-behind b-token (h-within _ (λ c k. refl) t.value.1)))
type_held (layers.ProcOf p) = h-bare (b-with_rows _ (λ c k. refl) (b-opens_block (b-both b-token (b-there parameters_rows p b-parameters))))

fields_held : (y : WithFields predicates) → Free (told.fields_shown (fields_of predicates y))
fields_held y =
    f-both (f-declaring decl_kinds.Field y.first.1)
    (f-both (f-map (λ v. both token (declaring decl_kinds.Field (var_rows v))) _ y.rest.items (λ v. f-both (f-bare b-token) (f-declaring decl_kinds.Field v.1)))
    (f-bare (b-so y.closing_semicolon b-token)))

record_held : (y : WithRecord predicates) → Held (told.record_shown (record_of predicates y))
record_held y = h-record _ in_record (record_row y.base) (λ c k. refl) (λ c k. refl) (λ c k. refl)
    (f-both (f-bare b-token)
    (f-both (f-bare (b-there (λ q. both token (both (qualident_rows q) token)) y.base (λ q. b-both b-token (b-both (b-qualident q) b-token))))
    (f-both (record_fields predicates (λ o. Free (there (λ f. fields_rows f.value) o)) (f-bare b-nothing) (λ f h. h) y) (f-bare b-token))))

var_held : (y : WithVar predicates) → Declares (told.var_shown (var_of predicates y))
var_held y = d-held (b-identdef y.names.first) (identdef_some y.names.first)
    (h-behind (b-each (λ i. both token (identdef_rows i)) y.names.rest.items (λ i. b-both b-token (b-identdef i))) (h-behind b-token y.type_expr.1))

-- ---- layer by layer

steps : TypeSteps predicates
steps = record {
  type = λ y. h-is (told.type_rolled _) (type_held y);
  fields = λ y. f-is (told.fields_rolled _) (fields_held y);
  record_type = λ y. h-is (told.record_rolled _) (record_held y);
  var = λ y. d-is (told.var_rolled _) (var_held y);
}

pub h-type : (t : TypeForm) → Held (type_rows t)
h-type = type_induction predicates steps

pub d-var : (v : VarDecl) → Declares (var_rows v)
d-var = var_induction predicates steps
