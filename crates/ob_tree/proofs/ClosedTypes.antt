-- A closed property of event sequences, which also holds for declared names, holds for types.
use Rattle.std.proofs.Common.{ℕ, Bool, false, ◌++◌}
use Rattle.ob_scan.specs.declared.kind.Kind.TheVariants as kinds
use Rattle.ob_tree.specs.declared.declaration.ParameterSection.{ParameterSection}
use Rattle.ob_tree.specs.declared.declaration.Parameters.{Parameters}
use Rattle.ob_tree.specs.declared.declaration.TypeForm.TheOpen as layers
use Rattle.ob_tree.specs.declared.declaration.TypeForm.{TypeForm}
use Rattle.ob_tree.specs.declared.declaration.VarDecl.{VarDecl}
use Rattle.ob_tree.specs.Constructs as constructs
use Rattle.ob_tree.specs.declared.name.Identdef.{Identdef}
use Rattle.ob_tree.specs.TreeEvents.{Events, construct, word, declared, if_present, separated}
use Rattle.ob_tree.specs.Names.{qualident_events, identdef_events}
use Rattle.ob_tree.specs.Types.{section_events, parameters_events, type_events, fields_events, record_events, var_events}
use Rattle.ob_tree.proofs.TypeLayers.{type_shown, fields_shown, record_shown, var_shown, type_rolled, fields_rolled, record_rolled, var_rolled}
use Rattle.ob_tree.proofs.TypeInduction.{TypePredicates, TypeSteps, WithType, WithFields, WithRecord, WithVar, type_of, fields_of, record_of, var_of, record_fields, type_induction, var_induction}
use Rattle.ob_tree.proofs.Closed.{IsClosed, closed-is, closed-both, closed-construct, closed-there, closed-so, closed-times, closed-map, closed-separated}
use Rattle.ob_tree.proofs.ClosedExpressions.{closed-expr_list}
use Rattle.ob_tree.proofs.ClosedStatements.{closed-qualident}

module _ (P : Events → Type 0) (closed : IsClosed P) (declares : (is_exported : Bool) (n : ℕ) → P (declared is_exported n)) where
  -- ---- parameters

  pub closed-identdef : (i : Identdef) → P (identdef_events i)
  unfolding identdef_events
  closed-identdef i = closed-both P closed (declares i.is_exported i.name) (closed-so P closed i.is_exported (closed.a_word kinds.Star))

  section_held : (s : ParameterSection) → P (section_events s)
  unfolding section_events
  section_held s = closed-construct P closed constructs.FPSection (closed-both P closed (closed-so P closed s.variable (closed.a_word kinds.Var)) (closed-both P closed (closed-separated P closed kinds.Comma (declared false) s.names (declares false))
      (closed-both P closed (closed.a_word kinds.Colon) (closed-both P closed (closed-times P closed s.open_arrays (closed-both P closed (closed.a_word kinds.Array) (closed.a_word kinds.Of))) (closed-qualident P closed s.of)))))

  pub closed-parameters : (p : Parameters) → P (parameters_events p)
  unfolding parameters_events
  closed-parameters p =
      closed-both P closed (closed.a_word kinds.LeftParen) (closed-both P closed (closed-there P closed (separated kinds.Semicolon section_events) p.sections (λ l. closed-separated P closed kinds.Semicolon section_events l section_held))
      (closed-both P closed (closed.a_word kinds.RightParen) (closed-there P closed (λ q. word kinds.Colon ++ qualident_events q) p.result (λ q. closed-both P closed (closed.a_word kinds.Colon) (closed-qualident P closed q)))))

  -- the property holds for each child

  abbrev predicates : TypePredicates
  predicates = record {
    type = λ t. P (type_events t);
    fields = λ t. P (fields_events t);
    record_type = λ t. P (record_events t);
    var = λ t. P (var_events t);
  }

  type_held : (y : WithType predicates) → P (type_shown (type_of predicates y))
  type_held (layers.Named q) = closed-construct P closed constructs.NamedType (closed-qualident P closed q)
  type_held (layers.ArrayOf lengths of) = closed-construct P closed constructs.ArrayType (closed-both P closed (closed.a_word kinds.Array) (closed-both P closed (closed-expr_list P closed lengths.value) (closed-both P closed (closed.a_word kinds.Of) of.value.1)))
  type_held (layers.RecordOf r) = closed-construct P closed constructs.RecordType r.1
  type_held (layers.PointerTo t) = closed-construct P closed constructs.PointerType (closed-both P closed (closed.a_word kinds.Pointer) (closed-both P closed (closed.a_word kinds.To) t.value.1))
  type_held (layers.ProcOf p) = closed-construct P closed constructs.ProcedureType (closed-both P closed (closed.a_word kinds.Procedure) (closed-there P closed parameters_events p closed-parameters))

  fields_held : (y : WithFields predicates) → P (fields_shown (fields_of predicates y))
  fields_held y =
      closed-both P closed (closed-construct P closed constructs.FieldList y.first.1)
      (closed-both P closed (closed-map P closed (λ v. word kinds.Semicolon ++ construct constructs.FieldList (var_events v)) _ y.rest.items (λ v. closed-both P closed (closed.a_word kinds.Semicolon) (closed-construct P closed constructs.FieldList v.1)))
      (closed-so P closed y.closing_semicolon (closed.a_word kinds.Semicolon)))

  record_held : (y : WithRecord predicates) → P (record_shown (record_of predicates y))
  record_held y =
      closed-both P closed (closed.a_word kinds.Record)
      (closed-both P closed (closed-there P closed (λ q. word kinds.LeftParen ++ (qualident_events q ++ word kinds.RightParen)) y.base (λ q. closed-both P closed (closed.a_word kinds.LeftParen) (closed-both P closed (closed-qualident P closed q) (closed.a_word kinds.RightParen))))
      (closed-both P closed (record_fields predicates (λ o. P (if_present (λ f. fields_events f.value) o)) closed.nothing (λ f h. h) y) (closed.a_word kinds.End)))

  var_held : (y : WithVar predicates) → P (var_shown (var_of predicates y))
  var_held y = closed-both P closed (closed-separated P closed kinds.Comma identdef_events y.names closed-identdef) (closed-both P closed (closed.a_word kinds.Colon) y.type_expr.1)

  -- ---- layer by layer

  steps : TypeSteps predicates
  steps = record {
    type = λ y. closed-is P closed (type_rolled _) (type_held y);
    fields = λ y. closed-is P closed (fields_rolled _) (fields_held y);
    record_type = λ y. closed-is P closed (record_rolled _) (record_held y);
    var = λ y. closed-is P closed (var_rolled _) (var_held y);
  }

  pub closed-type : (t : TypeForm) → P (type_events t)
  closed-type = type_induction predicates steps

  pub closed-var : (v : VarDecl) → P (var_events v)
  closed-var = var_induction predicates steps
