-- The names in each block of a type expression are contiguous.
use Rattle.std.proofs.Common.{◌≡◌, ℕ, zero, suc, false, Option, Some, None, refl, sym, ap}
use Rattle.ob_tree.specs.declared.declaration.Parameters.{Parameters}
use Rattle.ob_tree.specs.declared.declaration.TypeForm.TheOpen as layers
use Rattle.ob_tree.specs.declared.declaration.TypeForm.{TypeForm}
use Rattle.ob_tree.specs.declared.declaration.VarDecl.{VarDecl}
use Rattle.ob_tree.specs.declared.name.Identdef.{Identdef}
use Rattle.ob_tree.proofs.TypeInduction.{TypePredicates, TypeSteps, WithType, WithFields, WithRecord, WithVar, type_of, fields_of, record_of, var_of, record_fields, type_induction, var_induction}
use Rattle.ob_tree.specs.declared.name.Qualident.{Qualident}
use Rattle.ob_tree.specs.declared.expression.Expr.{Expr}
use Rattle.ob_tree.specs.declared.expression.ExprList.{ExprList, out-ExprList}
use Rattle.ob_tree.specs.declared.name.OneOrMore.{OneOrMore}
use Rattle.ob_tree.specs.declared.declaration.ParameterSection.{ParameterSection}
use Rattle.module_table.specs.declared.rows.DeclKind.TheVariants as decl_kinds
use Rattle.module_table.specs.declared.rows.Part.TheVariants as parts
use Rattle.module_table.specs.Parts.{Fragment, token, both, with_rows, if_true, declaring}
use Rattle.module_table.specs.Parts.{if_present as there}
use Rattle.table_rules.specs.Expressions.{each_after, expr_rows}
use Rattle.table_rules.specs.Statements.{qualident_rows}
use Rattle.module_table.specs.declared.rows.Part.{Part as PartRow}
use Rattle.table_rules.specs.Types.{declared_row, name_part, type_use_row, part_row, record_row, in_record, open_arrays, section_inner, section_rows, identdef_rows, parameter_rows, parameters_rows, type_name_rows, lengths_rows, type_rows, fields_rows, record_rows, var_rows}
use Rattle.table_rules.proofs.TypeLayers as told
use Rattle.std.proofs.Common.{◌+◌, ◌<◌, ◌≤◌, List, [], Bool, true, arith, inl, inr, subst}
use Rattle.std.specs.Prelude.{Contains}
use Rattle.std.proofs.lemmas.List.Elements.{Contains-append_cases}
use Rattle.module_table.specs.declared.builder.Context.{Context}
use Rattle.module_table.specs.declared.rows.Block.{Block}
use Rattle.module_table.specs.declared.rows.Declared.{Declared}
use Rattle.module_table.specs.declared.rows.Used.{Used}
use Rattle.module_table.specs.Order.{IsIncreasingBy}
use Rattle.module_table.specs.Parts.{no_rows, joined, nothing}
use Rattle.table_rules.proofs.Quiet.{q-both, q-there, q-token}
use Rattle.table_rules.proofs.QuietExpressions.{q-expr}
use Rattle.table_rules.proofs.QuietStatements.{q-qualident}
use Rattle.table_rules.proofs.NestedPieces.{Late, Names, Opens, Stands, empty, single, late-nothing, late-token, n-both, n-declared, n-declares, n-each, n-so, n-token, o-more, o-stands, p-first, p-quiet, s-block, s-both, s-declaring, s-each, s-is, s-map, s-nothing, s-plain, s-with_rows, s-there, s-token, s-within}

-- ---- names

pub n-identdef : (i : Identdef) → Names (identdef_rows i)
unfolding identdef_rows
n-identdef i = n-declares i.is_exported (n-so i.is_exported n-token)

star_none : (b : Bool) (c : Context) (k : ℕ) → ((if_true b token).rows c k).declared ≡ []
unfolding token nothing no_rows
star_none true c k = refl
star_none false c k = refl

-- the name is the first token
pub identdef_first : (i : Identdef) (c : Context) (k : ℕ) (d : Declared) → Contains ((identdef_rows i).rows c k).declared d → d.number ≡ k
unfolding identdef_rows with_rows both token joined no_rows
identdef_first i c k d h = elim (Contains-append_cases (declared_row i.is_exported c k).declared ((if_true i.is_exported token).rows c (k + 1)).declared d h) [
  | inl a ↦ sym (ap (λ (y : Declared). y.number) (single (record { number = k; exported = i.is_exported; declared_by = c.decl_group }) d a))
  | inr b ↦ empty ((if_true i.is_exported token).rows c (k + 1)).declared d (star_none i.is_exported c (k + 1)) b
]

pub identdef_some : (i : Identdef) → 0 < (identdef_rows i).width
unfolding identdef_rows with_rows both token
identdef_some i = omega arith

pub some_both : (p q : Fragment) → 0 < p.width → 0 < (both p q).width
unfolding both
some_both p q l = omega arith

n-parameter : Names parameter_rows
unfolding parameter_rows
n-parameter = n-declared false

parameter_some : 1 ≤ parameter_rows.width
unfolding parameter_rows with_rows token
parameter_some = omega arith

token_both : (p : Fragment) → 0 < (both token p).width
unfolding both token
token_both p = omega arith

section_some : (s : ParameterSection) → 0 < (section_inner s).width
unfolding section_inner both
section_some s = let l = parameter_some in omega arith

-- a declaration group with its names
pub record Begins (B : List Block) (p : Fragment) : Type 0 where
  pub opens : Opens B 0 p
  pub some : 0 < p.width

module _ (B : List Block) (up : IsIncreasingBy (λ (b : Block). b.first) B) where
  abbrev S : Fragment → Type 0
  S p = Stands B p

  pub s-expr : (e : Expr) → S (expr_rows e)
  s-expr e = s-plain B (p-quiet (q-expr e))

  pub s-qualident : (q : Qualident) → S (qualident_rows q)
  s-qualident q = s-plain B (p-quiet (q-qualident q))

  s-type_name : (q : Qualident) → S (type_name_rows q)
  unfolding type_name_rows
  s-type_name q = s-with_rows B (name_part q) (λ c k. refl) (λ c k. refl) (λ c k. refl)
      (s-plain B (p-first (type_use_row q) (λ c k. refl) (λ c k. refl) (λ c k u h. (sym (ap (λ (x : Used). x.block) (single _ u h)), sym (ap (λ (x : Used). x.number) (single _ u h))))
      (token_both _) (p-quiet (q-both q-token (q-there (λ m. both token token) q.member (λ m. q-both q-token q-token))))))

  s-part : (part : PartRow) {p : Fragment} → S p → S (with_rows (part_row part) p)
  s-part part f = s-with_rows B (part_row part) (λ c k. refl) (λ c k. refl) (λ c k. refl) f

  s-arrays : (n : ℕ) → S (open_arrays n)
  s-arrays zero = s-nothing B
  s-arrays (suc n) = s-both B (s-part parts.Array (s-both B (s-token B) (s-token B))) (s-arrays n)

  s-section : (s : ParameterSection) → S (section_rows s)
  unfolding section_rows section_inner
  s-section s = s-declaring B decl_kinds.Parameter (section_some s)
      (o-more B 0 0 (omega arith) (n-so s.variable n-token) (o-more B 0 1 (let l = parameter_some in omega arith) n-parameter
      (o-more B 1 1 (omega arith) (n-each (λ n. both token parameter_rows) s.names.rest.items (λ n. n-both n-token n-parameter))
      (o-stands B (s-both B (s-token B) (s-both B (s-arrays s.open_arrays) (s-with_rows B (name_part s.of) (λ c k. refl) (λ c k. refl) (λ c k. refl) (s-qualident s.of))))))))

  s-sections : (l : OneOrMore ParameterSection) → S (both (section_rows l.first) (each_after section_rows l.rest.items))
  s-sections l = s-both B (s-section l.first) (s-each B (λ s. both token (section_rows s)) l.rest.items (λ s. s-both B (s-token B) (s-section s)) (s-nothing B))

  late-parameters : (p : Parameters) → Late B (parameters_rows p)
  unfolding parameters_rows
  late-parameters p = late-token B
      (s-both B (s-there B (λ l. both (section_rows l.first) (each_after section_rows l.rest.items)) p.sections s-sections (s-nothing B))
      (s-both B (s-token B) (s-there B (λ q. both token (qualident_rows q)) p.result (λ q. s-both B (s-token B) (s-qualident q)) (s-nothing B))))

  pub s-parameters : (p : Parameters) → S (parameters_rows p)
  s-parameters p = (late-parameters p).whole

  late-there : (o : Option Parameters) → Late B (there parameters_rows o)
  late-there None = late-nothing B
  late-there (Some p) = late-parameters p

  s-lengths : (l : ExprList) → S (lengths_rows l)
  s-lengths l = s-is B (told.lengths_out l) (s-both B (s-expr (out-ExprList l).first) (s-each B (λ e. both (with_rows (part_row parts.Array) token) (expr_rows e)) (out-ExprList l).rest.items (λ e. s-both B (s-part parts.Array (s-token B)) (s-expr e)) (s-nothing B)))

  -- ---- each fragment

  s-so : (b : Bool) → S (if_true b token)
  s-so true = s-token B
  s-so false = s-nothing B

  b-is : {p q : Fragment} → p ≡ q → Begins B q → Begins B p
  b-is e m = subst (Begins B) (sym e) m

  abbrev predicates : TypePredicates
  predicates = record {
    type = λ t. S (type_rows t);
    fields = λ t. S (fields_rows t);
    record_type = λ t. S (record_rows t);
    var = λ t. Begins B (var_rows t);
  }

  type_held : (y : WithType predicates) → S (told.type_shown (type_of predicates y))
  type_held (layers.Named q) = s-type_name q
  type_held (layers.ArrayOf lengths of) = s-part parts.Array (s-both B (s-token B) (s-both B (s-lengths lengths.value) (s-both B (s-token B) (s-within B _ (λ c k. refl) of.value.1))))
  type_held (layers.RecordOf r) = s-part parts.Record r.1
  type_held (layers.PointerTo t) = s-part parts.Pointer (s-both B (s-token B) (s-both B (s-token B) (s-within B _ (λ c k. refl) t.value.1)))
  type_held (layers.ProcOf p) = s-part parts.Procedure (s-block B up (late-there p))

  fields_held : (y : WithFields predicates) → S (told.fields_shown (fields_of predicates y))
  fields_held y =
      s-both B (s-declaring B decl_kinds.Field y.first.1.some y.first.1.opens)
      (s-both B (s-map B (λ v. both token (declaring decl_kinds.Field (var_rows v))) _ y.rest.items (λ v. s-both B (s-token B) (s-declaring B decl_kinds.Field v.1.some v.1.opens)) (s-nothing B))
      (s-so y.closing_semicolon))

  record_held : (y : WithRecord predicates) → S (told.record_shown (record_of predicates y))
  record_held y = s-with_rows B (record_row y.base) (λ c k. refl) (λ c k. refl) (λ c k. refl) (s-within B in_record (λ c k. refl)
      (s-both B (s-token B)
      (s-both B (s-there B (λ q. both token (both (qualident_rows q) token)) y.base (λ q. s-both B (s-token B) (s-both B (s-qualident q) (s-token B))) (s-nothing B))
      (s-both B (record_fields predicates (λ o. S (there (λ f. fields_rows f.value) o)) (s-nothing B) (λ f h. h) y) (s-token B)))))

  var_held : (y : WithVar predicates) → Begins B (told.var_shown (var_of predicates y))
  var_held y = record {
    opens = o-more B 0 1 (let l = identdef_some y.names.first in omega arith) (n-identdef y.names.first)
        (o-more B 1 1 (omega arith) (n-each (λ i. both token (identdef_rows i)) y.names.rest.items (λ i. n-both n-token (n-identdef i))) (o-stands B (s-both B (s-token B) y.type_expr.1)));
    some = some_both (identdef_rows y.names.first) _ (identdef_some y.names.first);
  }

  -- ---- layer by layer

  steps : TypeSteps predicates
  steps = record {
    type = λ y. s-is B (told.type_rolled _) (type_held y);
    fields = λ y. s-is B (told.fields_rolled _) (fields_held y);
    record_type = λ y. s-is B (told.record_rolled _) (record_held y);
    var = λ y. b-is (told.var_rolled _) (var_held y);
  }

  pub s-type : (t : TypeForm) → S (type_rows t)
  s-type = type_induction predicates steps

  pub b-var : (v : VarDecl) → Begins B (var_rows v)
  b-var = var_induction predicates steps
