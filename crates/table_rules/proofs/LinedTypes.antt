-- The entries of type expressions are sorted.
use Rattle.std.proofs.Common.{ℕ, zero, suc, false, Option, refl, sym, subst, Bool, true}
use Rattle.ob_tree.specs.declared.declaration.Parameters.{Parameters}
use Rattle.ob_tree.specs.declared.declaration.TypeForm.TheOpen as layers
use Rattle.ob_tree.specs.declared.declaration.TypeForm.{TypeForm}
use Rattle.ob_tree.specs.declared.declaration.VarDecl.{VarDecl}
use Rattle.ob_tree.specs.declared.name.Identdef.{Identdef}
use Rattle.ob_tree.proofs.TypeInduction.{TypePredicates, TypeSteps, WithType, WithFields, WithRecord, WithVar, type_of, fields_of, record_of, var_of, record_fields, type_induction, var_induction}
use Rattle.ob_tree.specs.declared.name.Qualident.{Qualident}
use Rattle.ob_tree.specs.declared.expression.ExprList.{ExprList, out-ExprList}
use Rattle.ob_tree.specs.declared.declaration.ParameterSection.{ParameterSection}
use Rattle.module_table.specs.declared.rows.DeclKind.TheVariants as decl_kinds
use Rattle.module_table.specs.declared.rows.Part.TheVariants as parts
use Rattle.module_table.specs.declared.rows.Part.{Part as PartRow}
use Rattle.module_table.specs.Parts.{Fragment, token, both, with_rows, if_true, declaring, opens_block, in_block}
use Rattle.module_table.specs.Parts.{if_present as there}
use Rattle.table_rules.specs.Expressions.{each_after, expr_rows}
use Rattle.table_rules.specs.Statements.{qualident_rows}
use Rattle.table_rules.specs.Types.{part_row, record_row, in_record, open_arrays, section_inner, section_rows, identdef_rows, parameter_rows, parameters_rows, type_name_rows, lengths_rows, type_rows, fields_rows, record_rows, var_rows}
use Rattle.table_rules.proofs.TypeLayers as told
use Rattle.table_rules.specs.Types.{declared_row, name_part}
use Rattle.table_rules.proofs.LinedKinds.{Kind}
use Rattle.table_rules.proofs.LinedPieces.{Beside, Headed, Later, Ordered, h-before, h-both, h-with_rows, l-both, l-token, l-within, n-headed, n-is, n-later, n-nothing, o-both, o-declaring, o-each, o-headed, o-is, o-separated, o-map, o-nothing, o-so, o-there, o-token, o-within}
use Rattle.table_rules.proofs.LinedExpressions.{o-expr}
use Rattle.table_rules.proofs.LinedStatements.{h-qualident, o-qualident}

module _ {X : Type 0} (K : Kind X) where
  -- ---- names and parameters

  pub h-identdef : (i : Identdef) → Headed K (λ c k. K.of (declared_row i.is_exported c k)) (identdef_rows i)
  unfolding identdef_rows
  h-identdef i = h-with_rows K _ (l-both K (l-token K) (o-so K i.is_exported (o-token K)))

  pub o-identdef : (i : Identdef) → Ordered K (identdef_rows i)
  o-identdef i = o-headed K (h-identdef i) (λ c k. K.declared k _ refl)

  h-parameter : Headed K (λ c k. K.of (declared_row false c k)) parameter_rows
  unfolding parameter_rows
  h-parameter = h-with_rows K _ (l-token K)

  o-parameter : Ordered K parameter_rows
  o-parameter = o-headed K h-parameter (λ c k. K.declared k _ refl)

  o-type_name : (q : Qualident) → Ordered K (type_name_rows q)
  unfolding type_name_rows
  o-type_name q = o-headed K (h-before K _ (h-with_rows K _ (l-both K (l-token K) (o-there K (λ m. both token token) q.member (λ m. o-both K (o-token K) (o-token K)))))) (λ c k. K.named k _ _ refl refl)

  -- a component, and a fragment without a component at its first token
  o-part : (part : PartRow) {p : Fragment} → Later K p → Ordered K (with_rows (part_row part) p)
  o-part part f = o-headed K (h-with_rows K _ f) (λ c k. K.part k _ refl)

  o-arrays : (n : ℕ) → Ordered K (open_arrays n)
  o-arrays zero = o-nothing K
  o-arrays (suc n) = o-both K (o-part parts.Array (l-both K (l-token K) (o-token K))) (o-arrays n)

  section_rest : (s : ParameterSection) → Ordered K (both (each_after (λ n. parameter_rows) s.names.rest.items) (both token (both (open_arrays s.open_arrays) (with_rows (name_part s.of) (qualident_rows s.of)))))
  section_rest s = o-both K (o-each K (λ n. both token parameter_rows) s.names.rest.items (λ n. o-both K (o-token K) o-parameter))
      (o-both K (o-token K) (o-both K (o-arrays s.open_arrays) (o-headed K (h-before K _ (h-qualident K s.of)) (λ c k. K.named k _ _ refl refl))))

  section_beside : (b : Bool) (p : Fragment) → Ordered K p → Beside K (both (if_true b token) (both parameter_rows p))
  section_beside true p f = n-later K (l-both K (l-token K) (o-both K o-parameter f))
  section_beside false p f = n-nothing K (n-headed K (h-both K h-parameter f) (λ c k by e. K.declares k by _ e refl))

  o-section : (s : ParameterSection) → Ordered K (section_rows s)
  unfolding section_rows section_inner
  o-section s = o-declaring K decl_kinds.Parameter (section_beside s.variable _ (section_rest s))

  pub o-parameters : (p : Parameters) → Ordered K (parameters_rows p)
  unfolding parameters_rows
  o-parameters p =
      o-both K (o-token K) (o-both K (o-there K (λ l. both (section_rows l.first) (each_after section_rows l.rest.items)) p.sections (λ l. o-separated K section_rows l o-section)) (o-both K (o-token K) (o-there K (λ q. both token (qualident_rows q)) p.result (λ q. o-both K (o-token K) (o-qualident K q)))))

  o-lengths : (l : ExprList) → Ordered K (lengths_rows l)
  o-lengths l = o-is K (told.lengths_out l) (o-both K (o-expr K (out-ExprList l).first) (o-each K (λ e. both (with_rows (part_row parts.Array) token) (expr_rows e)) (out-ExprList l).rest.items (λ e. o-both K (o-part parts.Array (l-token K)) (o-expr K e))))

  -- ---- each fragment

  -- a record at its first token
  HasRecord : Fragment → Type 0
  HasRecord p = (base : Option Qualident) × Headed K (λ c k. K.of (record_row base c k)) p

  abbrev predicates : TypePredicates
  predicates = record {
    type = λ t. Ordered K (type_rows t);
    fields = λ t. Ordered K (fields_rows t);
    record_type = λ t. HasRecord (record_rows t);
    var = λ t. Beside K (var_rows t);
  }

  record_type : (p : Fragment) → HasRecord p → Ordered K (with_rows (part_row parts.Record) p)
  unfolding HasRecord
  record_type p f = o-headed K (h-before K _ f.1) (λ c k. K.holds k _ _ refl refl)

  block_type : {p : Fragment} → Later K p → Ordered K (with_rows (part_row parts.Procedure) (opens_block p))
  block_type f = o-headed K (h-before K _ (h-with_rows K _ (l-within K in_block f))) (λ c k. K.opens k _ _ refl refl)

  type_held : (y : WithType predicates) → Ordered K (told.type_shown (type_of predicates y))
  type_held (layers.Named q) = o-type_name q
  type_held (layers.ArrayOf lengths of) = o-part parts.Array (l-both K (l-token K) (o-both K (o-lengths lengths.value) (o-both K (o-token K) (o-within K _ of.value.1))))
  type_held (layers.RecordOf r) = record_type _ r.1
  type_held (layers.PointerTo t) = o-part parts.Pointer (l-both K (l-token K) (o-both K (o-token K) (o-within K _ t.value.1)))
  type_held (layers.ProcOf p) = block_type (l-both K (l-token K) (o-there K parameters_rows p o-parameters))

  fields_held : (y : WithFields predicates) → Ordered K (told.fields_shown (fields_of predicates y))
  fields_held y =
      o-both K (o-declaring K decl_kinds.Field y.first.1)
      (o-both K (o-map K (λ v. both token (declaring decl_kinds.Field (var_rows v))) _ y.rest.items (λ v. o-both K (o-token K) (o-declaring K decl_kinds.Field v.1)))
      (o-so K y.closing_semicolon (o-token K)))

  record_held : (y : WithRecord predicates) → HasRecord (told.record_shown (record_of predicates y))
  unfolding HasRecord
  record_held y = (
    y.base,
    h-with_rows K _ (l-within K in_record
        (l-both K (l-token K)
        (o-both K (o-there K (λ q. both token (both (qualident_rows q) token)) y.base (λ q. o-both K (o-token K) (o-both K (o-qualident K q) (o-token K))))
        (o-both K (record_fields predicates (λ o. Ordered K (there (λ f. fields_rows f.value) o)) (o-nothing K) (λ f h. h) y) (o-token K))))),
  )

  var_held : (y : WithVar predicates) → Beside K (told.var_shown (var_of predicates y))
  var_held y = n-headed K (h-both K (h-identdef y.names.first)
      (o-both K (o-each K (λ i. both token (identdef_rows i)) y.names.rest.items (λ i. o-both K (o-token K) (o-identdef i))) (o-both K (o-token K) y.type_expr.1)))
      (λ c k by e. K.declares k by _ e refl)

  -- ---- layer by layer

  steps : TypeSteps predicates
  steps = record {
    type = λ y. o-is K (told.type_rolled _) (type_held y);
    fields = λ y. o-is K (told.fields_rolled _) (fields_held y);
    record_type = λ y. subst HasRecord (sym (told.record_rolled _)) (record_held y);
    var = λ y. n-is K (told.var_rolled _) (var_held y);
  }

  pub o-type : (t : TypeForm) → Ordered K (type_rows t)
  o-type = type_induction predicates steps

  pub n-var : (v : VarDecl) → Beside K (var_rows v)
  n-var = var_induction predicates steps
