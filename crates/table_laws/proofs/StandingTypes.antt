-- The records and the components in type expressions.
use Rattle.std.proofs.Common.{◌<◌, ℕ, zero, suc, false, refl, ap, arith}
use Rattle.ob_tree.specs.declared.declaration.Parameters.{Parameters}
use Rattle.ob_tree.specs.declared.declaration.TypeForm.TheOpen as layers
use Rattle.ob_tree.specs.declared.declaration.TypeForm.{TypeForm}
use Rattle.ob_tree.specs.declared.declaration.VarDecl.{VarDecl}
use Rattle.ob_tree.proofs.TypeInduction.{TypePredicates, TypeSteps, WithType, WithFields, WithRecord, WithVar, type_of, fields_of, record_of, var_of, record_fields, type_induction, var_induction}
use Rattle.ob_tree.specs.declared.name.Qualident.{Qualident}
use Rattle.ob_tree.specs.declared.expression.ExprList.{ExprList, out-ExprList}
use Rattle.ob_tree.specs.declared.declaration.ParameterSection.{ParameterSection}
use Rattle.module_table.specs.declared.rows.DeclKind.TheVariants as decl_kinds
use Rattle.module_table.specs.declared.rows.Part.TheVariants as parts
use Rattle.module_table.specs.Parts.{Fragment, token, both, with_rows, declaring}
use Rattle.module_table.specs.Parts.{if_present as there}
use Rattle.table_rules.specs.Expressions.{after_dot, each_after, expr_rows}
use Rattle.table_rules.specs.Statements.{qualident_rows}
use Rattle.table_rules.specs.Types.{name_part, part_row, open_arrays, section_inner, section_rows, identdef_rows, parameter_rows, parameters_rows, type_name_rows, lengths_rows, type_rows, fields_rows, record_rows, var_rows}
use Rattle.table_rules.proofs.TypeLayers as told
use Rattle.table_laws.proofs.Plain.{b-both, b-nothing, b-so, b-with_rows, b-there, b-token}
use Rattle.table_laws.proofs.PlainExpressions.{b-expr}
use Rattle.table_laws.proofs.PlainStatements.{b-qualident}
use Rattle.table_laws.proofs.StandingPieces.{Free, Held, Loose, Stands, l-both, l-each, l-is, l-own, l-plain, m-declared, o-loose, s-both, s-each, s-is, s-loose, s-map, s-mute, s-opens, s-part, s-plain, s-procedure, s-record, s-in_pointer, s-there, s-in_array}
use Rattle.table_laws.proofs.StandingDeclarations.{Types, m-identdef, s-field, t-held, t-is}

-- ---- names and parameters

token_some : 0 < token.width
unfolding token
token_some = omega arith

qualident_some : (q : Qualident) → 0 < (qualident_rows q).width
unfolding qualident_rows with_rows both token
qualident_some q = omega arith

l-array : Loose (with_rows (part_row parts.Array) token)
l-array = l-own (part_row parts.Array) (λ k. parts.Array) (λ c k. refl) (λ k e. cc) token_some (l-plain b-token)

l-type_name : (q : Qualident) → Loose (type_name_rows q)
unfolding type_name_rows with_rows both token
l-type_name q = l-own (name_part q) (λ k. parts.Named (after_dot q.member k)) (λ c k. refl) (λ k e. cc) (omega arith) (l-plain (b-with_rows _ (λ c k. refl) (b-both b-token (b-there (λ m. both token token) q.member (λ m. b-both b-token b-token)))))

l-open_array : Loose (with_rows (part_row parts.Array) (both token token))
unfolding both token
l-open_array = l-own (part_row parts.Array) (λ k. parts.Array) (λ c k. refl) (λ k e. cc) (omega arith) (l-plain (b-both b-token b-token))

l-arrays : (n : ℕ) → Loose (open_arrays n)
l-arrays zero = l-plain b-nothing
l-arrays (suc n) = l-both l-open_array (l-arrays n)

l-parameter : Loose parameter_rows
unfolding parameter_rows
l-parameter = (m-declared false b-token).loose

l-section : (s : ParameterSection) → Loose (section_inner s)
unfolding section_inner
l-section s = l-both (l-plain (b-so s.variable b-token)) (l-both l-parameter (l-both (l-each (λ n. both token parameter_rows) s.names.rest.items (λ n. l-both (l-plain b-token) l-parameter)) (l-both (l-plain b-token)
    (l-both (l-arrays s.open_arrays) (l-own (name_part s.of) (λ k. parts.Named (after_dot s.of.member k)) (λ c k. refl) (λ k e. cc) (qualident_some s.of) (l-plain (b-qualident s.of)))))))

section_some : (s : ParameterSection) → 0 < (section_inner s).width
unfolding section_inner parameter_rows with_rows both token
section_some s = omega arith

s-section : (s : ParameterSection) → Free (section_rows s)
unfolding section_rows
s-section s = s-opens decl_kinds.Parameter (λ r. refl) (o-loose (section_some s) (l-section s))

pub s-parameters : (p : Parameters) → Free (parameters_rows p)
unfolding parameters_rows
s-parameters p =
    s-both (s-plain b-token) (s-both (s-there (λ l. both (section_rows l.first) (each_after section_rows l.rest.items)) p.sections (λ l. s-both (s-section l.first) (s-each (λ s. both token (section_rows s)) l.rest.items (λ s. s-both (s-plain b-token) (s-section s)))))
    (s-both (s-plain b-token) (s-plain (b-there (λ q. both token (qualident_rows q)) p.result (λ q. b-both b-token (b-qualident q))))))

l-lengths : (l : ExprList) → Loose (lengths_rows l)
l-lengths l = l-is (told.lengths_out l) (l-both (l-plain (b-expr (out-ExprList l).first)) (l-each (λ e. both (with_rows (part_row parts.Array) token) (expr_rows e)) (out-ExprList l).rest.items (λ e. l-both l-array (l-plain (b-expr e)))))

-- ---- each part

abbrev predicates : TypePredicates
predicates = record {
  type = λ t. Held (type_rows t);
  fields = λ t. Stands ⊥ ⊥ Unit (fields_rows t);
  record_type = λ t. Held (with_rows (part_row parts.Record) (record_rows t));
  var = λ t. Types (var_rows t);
}

type_held : (y : WithType predicates) → Held (told.type_shown (type_of predicates y))
type_held (layers.Named q) = s-loose (l-type_name q)
type_held (layers.ArrayOf lengths of) = s-part parts.Array (λ e. cc) (s-both (s-loose (l-lengths lengths.value)) (s-both (s-plain b-token) (s-in_array of.value.1)))
type_held (layers.RecordOf r) = r.1
type_held (layers.PointerTo t) = s-part parts.Pointer (λ e. cc) (s-both (s-plain b-token) (s-in_pointer t.value.1))
type_held (layers.ProcOf p) = s-procedure parts.Procedure (λ e. cc) (s-there parameters_rows p s-parameters)

fields_held : (y : WithFields predicates) → Stands ⊥ ⊥ Unit (told.fields_shown (fields_of predicates y))
fields_held y =
    s-both (s-field y.first.1)
    (s-both (s-map (λ v. both token (declaring decl_kinds.Field (var_rows v))) _ y.rest.items (λ v. s-both (s-plain b-token) (s-field v.1)))
    (s-plain (b-so y.closing_semicolon b-token)))

behind_token : (p : Fragment) → 0 < (both token p).width
unfolding both token
behind_token p = omega arith

record_held : (y : WithRecord predicates) → Held (with_rows (part_row parts.Record) (told.record_shown (record_of predicates y)))
record_held y = s-record y.base (behind_token _)
    (s-both (s-plain b-token)
    (s-both (s-plain (b-there (λ q. both token (both (qualident_rows q) token)) y.base (λ q. b-both b-token (b-both (b-qualident q) b-token))))
    (s-both (record_fields predicates (λ o. Stands ⊥ ⊥ Unit (there (λ f. fields_rows f.value) o)) (s-plain b-nothing) (λ f h. h) y) (s-plain b-token))))

var_held : (y : WithVar predicates) → Types (told.var_shown (var_of predicates y))
var_held y = t-held y.names.first
    (s-both (s-each (λ i. both token (identdef_rows i)) y.names.rest.items (λ i. s-both (s-plain b-token) (s-mute (m-identdef i)))) (s-both (s-plain b-token) y.type_expr.1))

-- ---- layer by layer

steps : TypeSteps predicates
steps = record {
  type = λ y. s-is (told.type_rolled _) (type_held y);
  fields = λ y. s-is (told.fields_rolled _) (fields_held y);
  record_type = λ y. s-is (ap (with_rows (part_row parts.Record)) (told.record_rolled _)) (record_held y);
  var = λ y. t-is (told.var_rolled _) (var_held y);
}

pub s-type_rows : (t : TypeForm) → Held (type_rows t)
s-type_rows = type_induction predicates steps

pub t-var : (v : VarDecl) → Types (var_rows v)
t-var = var_induction predicates steps
