-- The components in type expressions.
use Rattle.std.proofs.Common.{ℕ, zero, suc, refl}
use Rattle.ob_tree.specs.declared.declaration.Parameters.{Parameters}
use Rattle.ob_tree.specs.declared.declaration.TypeForm.TheOpen as layers
use Rattle.ob_tree.specs.declared.declaration.TypeForm.{TypeForm}
use Rattle.ob_tree.specs.declared.declaration.VarDecl.{VarDecl}
use Rattle.ob_tree.specs.declared.name.Identdef.{Identdef}
use Rattle.ob_tree.proofs.TypeInduction.{TypePredicates, TypeSteps, WithType, WithFields, WithRecord, WithVar, type_of, fields_of, record_of, var_of, record_fields, type_induction, var_induction}
use Rattle.ob_tree.specs.declared.name.Qualident.{Qualident}
use Rattle.ob_tree.specs.declared.expression.ExprList.{ExprList, out-ExprList}
use Rattle.ob_tree.specs.declared.declaration.ParameterSection.{ParameterSection}
use Rattle.module_table.specs.declared.rows.DeclKind.TheVariants as decl_kinds
use Rattle.module_table.specs.declared.rows.Part.TheVariants as parts
use Rattle.module_table.specs.Parts.{Fragment, token, both, with_rows, declaring}
use Rattle.module_table.specs.Parts.{if_present as there}
use Rattle.table_rules.specs.Expressions.{each_after, expr_rows}
use Rattle.table_rules.specs.Statements.{qualident_rows}
use Rattle.module_table.specs.declared.rows.Part.{Part as PartRow}
use Rattle.table_rules.specs.Types.{name_part, type_use_row, part_row, record_row, in_record, open_arrays, section_inner, section_rows, identdef_rows, parameter_rows, parameters_rows, type_name_rows, lengths_rows, type_rows, fields_rows, record_rows, var_rows}
use Rattle.table_rules.proofs.TypeLayers as told
use Rattle.table_rules.proofs.QuietExpressions.{q-expr}
use Rattle.table_rules.proofs.QuietStatements.{q-qualident}
use Rattle.table_rules.proofs.Formed.{Formless, Forms, Leads, Free, rising_one, n-nothing, n-quiet, n-token, n-both, n-with_rows, n-there, n-so, n-each, o-none, o-both, o-with_rows, o-each, o-is, f-none, f-both, f-is, f-map, f-separated, f-with_rows, f-there, f-within, f-opens_block, f-declaring, l-own, l-free, l-behind, l-with_rows, l-within, l-is}

-- ---- names and parameters

pub n-identdef : (i : Identdef) → Formless (identdef_rows i)
unfolding identdef_rows
n-identdef i = n-with_rows _ (λ c k. refl) (λ c k. refl) (n-both n-token (n-so i.is_exported n-token))

n-parameter : Formless parameter_rows
unfolding parameter_rows
n-parameter = n-with_rows _ (λ c k. refl) (λ c k. refl) n-token

o-type_name : (q : Qualident) → Forms (type_name_rows q)
unfolding type_name_rows
o-type_name q = o-with_rows (name_part q) (λ c k. rising_one c _ refl) (λ c k. refl) (o-none (n-with_rows (type_use_row q) (λ c k. refl) (λ c k. refl) (n-both n-token (n-there (λ m. both token token) q.member (λ m. n-both n-token n-token)))))

-- a component of the declaration around the fragment
o-part : (part : PartRow) {p : Fragment} → Forms p → Forms (with_rows (part_row part) p)
o-part part f = o-with_rows (part_row part) (λ c k. rising_one c _ refl) (λ c k. refl) f

l-part : (part : PartRow) {p : Fragment} → Leads p → Leads (with_rows (part_row part) p)
l-part part f = l-with_rows (part_row part) (λ c k. rising_one c _ refl) (λ c k. refl) f

o-arrays : (n : ℕ) → Forms (open_arrays n)
o-arrays zero = o-none n-nothing
o-arrays (suc n) = o-both (o-part parts.Array (o-none (n-both n-token n-token))) (o-arrays n)

f-section : (s : ParameterSection) → Free (section_rows s)
unfolding section_rows section_inner
f-section s = f-declaring decl_kinds.Parameter (l-own
    (o-both (o-none (n-so s.variable n-token)) (o-both (o-none n-parameter) (o-both (o-none (n-each (λ n. both token parameter_rows) s.names.rest.items (λ n. n-both n-token n-parameter))) (o-both (o-none n-token)
    (o-both (o-arrays s.open_arrays) (o-with_rows (name_part s.of) (λ c k. rising_one c _ refl) (λ c k. refl) (o-none (n-quiet (q-qualident s.of))))))))))

pub f-parameters : (p : Parameters) → Free (parameters_rows p)
unfolding parameters_rows
f-parameters p =
    f-both (f-none n-token) (f-both (f-there (λ l. both (section_rows l.first) (each_after section_rows l.rest.items)) p.sections (λ l. f-separated section_rows l f-section))
    (f-none (n-both n-token (n-there (λ q. both token (qualident_rows q)) p.result (λ q. n-both n-token (n-quiet (q-qualident q)))))))

o-lengths : (l : ExprList) → Forms (lengths_rows l)
o-lengths l = o-is (told.lengths_out l) (o-both (o-none (n-quiet (q-expr (out-ExprList l).first))) (o-each (λ e. both (with_rows (part_row parts.Array) token) (expr_rows e)) (out-ExprList l).rest.items (λ e. o-both (o-part parts.Array (o-none n-token)) (o-none (n-quiet (q-expr e))))))

-- ---- each fragment

abbrev predicates : TypePredicates
predicates = record {
  type = λ t. Leads (type_rows t);
  fields = λ t. Free (fields_rows t);
  record_type = λ t. Free (record_rows t);
  var = λ t. Leads (var_rows t);
}

type_held : (y : WithType predicates) → Leads (told.type_shown (type_of predicates y))
type_held (layers.Named q) = l-own (o-type_name q)
type_held (layers.ArrayOf lengths of) = l-part parts.Array (l-behind (o-none n-token) (l-behind (o-lengths lengths.value) (l-behind (o-none n-token) (l-within _ (λ c k. refl) of.value.1))))
type_held (layers.RecordOf r) = l-part parts.Record (l-free r.1)
type_held (layers.PointerTo t) = l-part parts.Pointer (l-behind (o-none n-token) (l-behind (o-none n-token) (l-within _ (λ c k. refl) t.value.1)))
type_held (layers.ProcOf p) = l-part parts.Procedure (l-free (f-opens_block (f-both (f-none n-token) (f-there parameters_rows p f-parameters))))

fields_held : (y : WithFields predicates) → Free (told.fields_shown (fields_of predicates y))
fields_held y =
    f-both (f-declaring decl_kinds.Field y.first.1)
    (f-both (f-map (λ v. both token (declaring decl_kinds.Field (var_rows v))) _ y.rest.items (λ v. f-both (f-none n-token) (f-declaring decl_kinds.Field v.1)))
    (f-none (n-so y.closing_semicolon n-token)))

record_held : (y : WithRecord predicates) → Free (told.record_shown (record_of predicates y))
record_held y = f-with_rows (record_row y.base) (λ c k. refl) (λ c k. refl) (f-within in_record
    (f-both (f-none n-token)
    (f-both (f-none (n-there (λ q. both token (both (qualident_rows q) token)) y.base (λ q. n-both n-token (n-both (n-quiet (q-qualident q)) n-token))))
    (f-both (record_fields predicates (λ o. Free (there (λ f. fields_rows f.value) o)) (f-none n-nothing) (λ f h. h) y) (f-none n-token)))))

var_held : (y : WithVar predicates) → Leads (told.var_shown (var_of predicates y))
var_held y = l-behind (o-none (n-identdef y.names.first))
    (l-behind (o-none (n-each (λ i. both token (identdef_rows i)) y.names.rest.items (λ i. n-both n-token (n-identdef i)))) (l-behind (o-none n-token) y.type_expr.1))

-- ---- layer by layer

steps : TypeSteps predicates
steps = record {
  type = λ y. l-is (told.type_rolled _) (type_held y);
  fields = λ y. f-is (told.fields_rolled _) (fields_held y);
  record_type = λ y. f-is (told.record_rolled _) (record_held y);
  var = λ y. l-is (told.var_rolled _) (var_held y);
}

pub l-type : (t : TypeForm) → Leads (type_rows t)
l-type = type_induction predicates steps

pub l-var : (v : VarDecl) → Leads (var_rows v)
l-var = var_induction predicates steps
