-- The context of each entry of a type expression.
use Rattle.std.proofs.Common.{ℕ, zero, suc, false, Option, refl}
use Rattle.ob_tree.specs.declared.declaration.Parameters.{Parameters}
use Rattle.ob_tree.specs.declared.declaration.TypeForm.TheOpen as layers
use Rattle.ob_tree.specs.declared.declaration.TypeForm.{TypeForm}
use Rattle.ob_tree.specs.declared.declaration.VarDecl.{VarDecl}
use Rattle.ob_tree.proofs.TypeInduction.{TypePredicates, TypeSteps, WithType, WithFields, WithRecord, WithVar, type_of, fields_of, record_of, var_of, record_fields, type_induction, var_induction}
use Rattle.ob_tree.specs.declared.name.Qualident.{Qualident}
use Rattle.ob_tree.specs.declared.expression.ExprList.{ExprList, out-ExprList}
use Rattle.ob_tree.specs.declared.declaration.ParameterSection.{ParameterSection}
use Rattle.module_table.specs.declared.rows.DeclKind.TheVariants as decl_kinds
use Rattle.module_table.specs.declared.rows.Part.TheVariants as parts
use Rattle.module_table.specs.Parts.{token, both, with_rows, declaring, in_block}
use Rattle.module_table.specs.Parts.{if_present as there}
use Rattle.table_rules.specs.Expressions.{each_after, expr_rows}
use Rattle.table_rules.specs.Statements.{qualident_rows}
use Rattle.table_rules.specs.Types.{part_row, open_arrays, section_inner, section_rows, identdef_rows, parameter_rows, parameters_rows, type_name_rows, lengths_rows, type_rows, fields_rows, record_rows, var_rows}
use Rattle.table_rules.proofs.TypeLayers as told
use Rattle.module_table.specs.Parts.{Rows}
use Rattle.table_laws.proofs.Bare.{Context}
use Rattle.table_rules.proofs.QuietExpressions.{q-expr}
use Rattle.table_rules.proofs.QuietStatements.{q-qualident}
use Rattle.table_laws.proofs.OwnedTypes.{identdef_some}
use Rattle.table_laws.proofs.Placed.{Free, Named, Begun, Typed, Recorded, Good, free, free_later, named_later, typed_later, recorded_later, g-is, g-quiet, g-weak, g-both, g-silent, g-within, g-there, g-each, g-map, g-name, g-identdef, g-owner, g-parameter, g-field, g-record, typed_named}
use Rattle.table_rules.proofs.Quiet.{Quiet, q-nothing, q-token, q-both, q-so, q-there}

module _ (R : Rows) where
  -- ---- names and parameters

  g-token : {Pre : Context → ℕ → Type 0} → Good R Pre token
  g-token = g-quiet R q-token

  q-member : (o : Option ℕ) → Quiet (there (λ m. both token token) o)
  q-member o = q-there (λ m. both token token) o (λ m. q-both q-token q-token)

  g-parameter_name : Good R (Named R) parameter_rows
  unfolding parameter_rows
  g-parameter_name = g-name R false q-token

  g-type_name : (q : Qualident) → Good R (Typed R) (type_name_rows q)
  unfolding type_name_rows
  g-type_name q = g-silent R _ (λ c k. (refl, refl, refl)) (g-silent R _ (λ c k. (refl, refl, refl)) (g-quiet R (q-both q-token (q-member q.member))))

  g-arrays : (n : ℕ) → Good R (Named R) (open_arrays n)
  g-arrays zero = g-quiet R q-nothing
  g-arrays (suc n) = g-both R (named_later R) (g-silent R _ (λ c k. (refl, refl, refl)) (g-quiet R (q-both q-token q-token))) (g-arrays n)

  g-section : (s : ParameterSection) → Good R (Free R) (section_rows s)
  unfolding section_rows section_inner
  g-section s = g-parameter R (g-both R (named_later R) (g-quiet R (q-so s.variable q-token)) (g-both R (named_later R) g-parameter_name
      (g-both R (named_later R) (g-each R (λ n. both token parameter_rows) s.names.rest.items (named_later R) (λ n. g-both R (named_later R) g-token g-parameter_name))
      (g-both R (named_later R) g-token (g-both R (named_later R) (g-arrays s.open_arrays) (g-silent R _ (λ c k. (refl, refl, refl)) (g-quiet R (q-qualident s.of))))))))

  pub g-parameters : (p : Parameters) → Good R (Free R) (parameters_rows p)
  unfolding parameters_rows
  g-parameters p =
      g-both R (free_later R) g-token (g-both R (free_later R)
      (g-there R (λ l. both (section_rows l.first) (each_after section_rows l.rest.items)) p.sections
      (λ l. g-both R (free_later R) (g-section l.first) (g-each R (λ x. both token (section_rows x)) l.rest.items (free_later R) (λ x. g-both R (free_later R) g-token (g-section x)))))
      (g-both R (free_later R) g-token (g-there R (λ q. both token (qualident_rows q)) p.result (λ q. g-quiet R (q-both q-token (q-qualident q))))))

  g-lengths : (l : ExprList) → Good R (Typed R) (lengths_rows l)
  g-lengths l = g-is R (told.lengths_out l) (g-both R (typed_later R) (g-quiet R (q-expr (out-ExprList l).first))
      (g-each R (λ e. both (with_rows (part_row parts.Array) token) (expr_rows e)) (out-ExprList l).rest.items (typed_later R)
      (λ e. g-both R (typed_later R) (g-silent R _ (λ c k. (refl, refl, refl)) g-token) (g-quiet R (q-expr e)))))

  -- ---- types

  abbrev predicates : TypePredicates
  predicates = record {
    type = λ t. Good R (Typed R) (type_rows t);
    fields = λ t. Good R (Recorded R) (fields_rows t);
    record_type = λ t. Good R (Typed R) (record_rows t);
    var = λ t. Good R (Begun R) (var_rows t);
  }

  type_held : (y : WithType predicates) → Good R (Typed R) (told.type_shown (type_of predicates y))
  type_held (layers.Named q) = g-type_name q
  type_held (layers.ArrayOf lengths of) = g-silent R _ (λ c k. (refl, refl, refl)) (g-both R (typed_later R) g-token (g-both R (typed_later R) (g-lengths lengths.value)
      (g-both R (typed_later R) g-token (g-within R _ (λ c k s. record { owner = s.owner; owned = s.owned; before = s.before }) of.value.1))))
  type_held (layers.RecordOf r) = g-silent R _ (λ c k. (refl, refl, refl)) r.1
  type_held (layers.PointerTo t) = g-silent R _ (λ c k. (refl, refl, refl)) (g-both R (typed_later R) g-token (g-both R (typed_later R) g-token
      (g-within R _ (λ c k s. record { owner = s.owner; owned = s.owned; before = s.before }) t.value.1)))
  type_held (layers.ProcOf p) = g-silent R _ (λ c k. (refl, refl, refl)) (g-silent R _ (λ c k. (refl, refl, refl))
      (g-within R {Other = Free R} in_block (λ c k s. free R (in_block c k) k) (g-both R (free_later R) g-token (g-there R parameters_rows p g-parameters))))

  fields_held : (y : WithFields predicates) → Good R (Recorded R) (told.fields_shown (fields_of predicates y))
  fields_held y =
      g-both R (recorded_later R) (g-field R y.first.1)
      (g-both R (recorded_later R) (g-map R (λ v. both token (declaring decl_kinds.Field (var_rows v))) _ y.rest.items (recorded_later R) (λ v. g-both R (recorded_later R) g-token (g-field R v.1)))
      (g-quiet R (q-so y.closing_semicolon q-token)))

  record_held : (y : WithRecord predicates) → Good R (Typed R) (told.record_shown (record_of predicates y))
  record_held y = g-record R y.base
      (g-both R (recorded_later R) g-token
      (g-both R (recorded_later R) (g-there R (λ q. both token (both (qualident_rows q) token)) y.base (λ q. g-quiet R (q-both q-token (q-both (q-qualident q) q-token))))
      (g-both R (recorded_later R) (record_fields predicates (λ o. Good R (Recorded R) (there (λ f. fields_rows f.value) o)) (g-quiet R q-nothing) (λ f h. h) y) g-token)))

  var_held : (y : WithVar predicates) → Good R (Begun R) (told.var_shown (var_of predicates y))
  var_held y = g-owner R y.names.first (identdef_some y.names.first)
      (g-both R (typed_later R) (g-each R (λ i. both token (identdef_rows i)) y.names.rest.items (typed_later R) (λ i. g-both R (typed_later R) g-token (g-weak R (typed_named R) (g-identdef R i))))
      (g-both R (typed_later R) g-token y.type_expr.1))

  -- ---- layer by layer

  steps : TypeSteps predicates
  steps = record {
    type = λ y. g-is R (told.type_rolled _) (type_held y);
    fields = λ y. g-is R (told.fields_rolled _) (fields_held y);
    record_type = λ y. g-is R (told.record_rolled _) (record_held y);
    var = λ y. g-is R (told.var_rolled _) (var_held y);
  }

  pub g-type_expr : (t : TypeForm) → Good R (Typed R) (type_rows t)
  g-type_expr = type_induction predicates steps

  pub g-variables : (v : VarDecl) → Good R (Begun R) (var_rows v)
  g-variables = var_induction predicates steps
