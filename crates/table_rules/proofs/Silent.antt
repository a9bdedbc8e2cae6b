-- Fragments that contain no name after END: all but declarations of procedures and modules.
use Rattle.std.proofs.Common.{◌≡◌, ℕ, zero, suc, ◌+◌, ◌++◌, Bool, true, false, List, [], ◌∷◌, map, Option, Some, None, refl, sym, ap, ap₂, subst}
use Rattle.ob_tree.specs.declared.name.OneOrMore.{OneOrMore}
use Rattle.ob_tree.specs.declared.name.Identdef.{Identdef}
use Rattle.ob_tree.specs.declared.name.Qualident.{Qualident}
use Rattle.ob_tree.specs.declared.expression.Expr.{Expr}
use Rattle.ob_tree.specs.declared.expression.ExprList.{ExprList, out-ExprList}
use Rattle.ob_tree.specs.declared.statement.StatementSequence.{StatementSequence}
use Rattle.ob_tree.specs.declared.declaration.ParameterSection.{ParameterSection}
use Rattle.ob_tree.specs.declared.declaration.Parameters.{Parameters}
use Rattle.ob_tree.specs.declared.declaration.TypeForm.TheOpen as layers
use Rattle.ob_tree.specs.declared.declaration.ConstDecl.{ConstDecl}
use Rattle.ob_tree.specs.declared.declaration.TypeDecl.{TypeDecl}
use Rattle.ob_tree.specs.declared.declaration.VarDecl.{VarDecl}
use Rattle.ob_tree.specs.declared.declaration.ImportItem.{ImportItem}
use Rattle.ob_tree.proofs.TypeInduction.{TypePredicates, TypeSteps, WithType, WithFields, WithRecord, WithVar, type_of, fields_of, record_of, var_of, record_fields, type_induction, var_induction}
use Rattle.module_table.specs.declared.builder.Context.{Context}
use Rattle.module_table.specs.declared.rows.End.{End}
use Rattle.module_table.specs.declared.rows.DeclKind.{DeclKind}
use Rattle.module_table.specs.declared.rows.DeclKind.TheVariants as decl_kinds
use Rattle.module_table.specs.Parts.{Fragment, Rows, no_rows, joined, nothing, token, both, with_rows, within, if_present, if_true, each, declaring, opens_block}
use Rattle.table_rules.specs.Expressions.{each_after, expr_rows}
use Rattle.table_rules.specs.Statements.{qualident_rows, block_rows}
use Rattle.table_rules.specs.Types.{open_arrays, section_inner, section_rows, identdef_rows, parameter_rows, parameters_rows, type_name_rows, lengths_rows, type_rows, fields_rows, record_rows, var_rows}
use Rattle.table_rules.specs.Declaring.{part, const_rows, type_decl_rows, variable_rows, import_inner, import_rows, imports_rows}
use Rattle.table_rules.proofs.TypeLayers as told
use Rattle.table_rules.proofs.Quiet.{Quiet, Told}
use Rattle.table_rules.proofs.QuietExpressions.{q-expr}
use Rattle.table_rules.proofs.QuietStatements.{q-qualident, q-block}

pub record Silent (p : Fragment) : Type 0 where
  pub none : (c : Context) (k : ℕ) → (p.rows c k).ends ≡ []

pub s-nothing : Silent nothing
unfolding nothing no_rows
s-nothing = record { none = λ c k. refl }

pub s-token : Silent token
unfolding token no_rows
s-token = record { none = λ c k. refl }

pub s-both : {p q : Fragment} → Silent p → Silent q → Silent (both p q)
unfolding both joined
s-both {p} {q} f g = record { none = λ c k. ap₂ (λ (xs ys : List End). xs ++ ys) (f.none c k) (g.none c (k + p.width)) }

s-with_rows : (own : Context → ℕ → Rows) {p : Fragment} → ((c : Context) (k : ℕ) → (own c k).ends ≡ []) → Silent p → Silent (with_rows own p)
unfolding with_rows joined
s-with_rows own {p} t f = record { none = λ c k. ap₂ (λ (xs ys : List End). xs ++ ys) (t c k) (f.none c k) }

s-within : (around : Context → ℕ → Context) {p : Fragment} → Silent p → Silent (within around p)
unfolding within
s-within around f = record { none = λ c k. f.none (around c k) k }

s-declaring : (decl_kind : DeclKind) {p : Fragment} → Silent p → Silent (declaring decl_kind p)
unfolding declaring joined
s-declaring decl_kind f = record { none = λ c k. f.none _ k }

s-quiet : {p : Fragment} → Quiet p → Silent p
s-quiet f = record { none = λ c k. ap (λ (t : Told). t.ends) (f.none c k) }

s-is : {p q : Fragment} → p ≡ q → Silent q → Silent p
s-is e f = subst Silent (sym e) f

pub s-there : {X : Type 0} (f : X → Fragment) (o : Option X) → ((x : X) → Silent (f x)) → Silent (if_present f o)
s-there f None w = s-nothing
s-there f (Some x) w = w x

s-so : (b : Bool) {p : Fragment} → Silent p → Silent (if_true b p)
s-so true w = w
s-so false w = s-nothing

s-each : {X : Type 0} (f : X → Fragment) (xs : List X) → ((x : X) → Silent (f x)) → Silent (each f xs)
s-each f [] w = s-nothing
s-each f (x ∷ xs) w = s-both (w x) (s-each f xs w)

s-map : {X Y : Type 0} (f : Y → Fragment) (h : X → Y) (xs : List X) → ((x : X) → Silent (f (h x))) → Silent (each f (map h xs))
s-map f h [] w = s-nothing
s-map f h (x ∷ xs) w = s-both (w x) (s-map f h xs w)

s-list : {X : Type 0} (f : X → Fragment) (l : OneOrMore X) → ((x : X) → Silent (f x)) → Silent (both (f l.first) (each_after f l.rest.items))
s-list f l w = s-both (w l.first) (s-each (λ x. both token (f x)) l.rest.items (λ x. s-both s-token (w x)))

s-block_type : {p : Fragment} → Silent p → Silent (opens_block p)
s-block_type f = s-with_rows _ (λ c k. refl) (s-within _ f)

-- ---- names, expressions, statements and parameters

pub s-expr : (e : Expr) → Silent (expr_rows e)
s-expr e = s-quiet (q-expr e)

pub s-block : (b : StatementSequence) → Silent (block_rows b)
s-block b = s-quiet (q-block b)

s-qualident : (q : Qualident) → Silent (qualident_rows q)
s-qualident q = s-quiet (q-qualident q)

pub s-identdef : (i : Identdef) → Silent (identdef_rows i)
unfolding identdef_rows
s-identdef i = s-with_rows _ (λ c k. refl) (s-both s-token (s-so i.is_exported s-token))

s-parameter : Silent parameter_rows
unfolding parameter_rows
s-parameter = s-with_rows _ (λ c k. refl) s-token

s-type_name : (q : Qualident) → Silent (type_name_rows q)
unfolding type_name_rows
s-type_name q = s-with_rows _ (λ c k. refl) (s-with_rows _ (λ c k. refl) (s-both s-token (s-there (λ m. both token token) q.member (λ m. s-both s-token s-token))))

s-arrays : (n : ℕ) → Silent (open_arrays n)
s-arrays zero = s-nothing
s-arrays (suc n) = s-both (s-with_rows _ (λ c k. refl) (s-both s-token s-token)) (s-arrays n)

s-section : (s : ParameterSection) → Silent (section_rows s)
unfolding section_rows section_inner
s-section s = s-declaring decl_kinds.Parameter (s-both (s-so s.variable s-token) (s-both s-parameter
    (s-both (s-each (λ n. both token parameter_rows) s.names.rest.items (λ n. s-both s-token s-parameter))
    (s-both s-token (s-both (s-arrays s.open_arrays) (s-with_rows _ (λ c k. refl) (s-qualident s.of)))))))

pub s-parameters : (p : Parameters) → Silent (parameters_rows p)
unfolding parameters_rows
s-parameters p = s-both s-token (s-both (s-there (λ l. both (section_rows l.first) (each_after section_rows l.rest.items)) p.sections (λ l. s-list section_rows l s-section))
    (s-both s-token (s-there (λ q. both token (qualident_rows q)) p.result (λ q. s-both s-token (s-qualident q)))))

s-lengths : (l : ExprList) → Silent (lengths_rows l)
s-lengths l = s-is (told.lengths_out l) (s-both (s-expr (out-ExprList l).first)
    (s-each _ (out-ExprList l).rest.items (λ e. s-both (s-with_rows _ (λ c k. refl) s-token) (s-expr e))))

-- ---- types

abbrev predicates : TypePredicates
predicates = record {
  type = λ t. Silent (type_rows t);
  fields = λ t. Silent (fields_rows t);
  record_type = λ t. Silent (record_rows t);
  var = λ t. Silent (var_rows t);
}

type_held : (y : WithType predicates) → Silent (told.type_shown (type_of predicates y))
type_held (layers.Named q) = s-type_name q
type_held (layers.ArrayOf lengths of) = s-with_rows _ (λ c k. refl) (s-both s-token (s-both (s-lengths lengths.value) (s-both s-token (s-within _ of.value.1))))
type_held (layers.RecordOf r) = s-with_rows _ (λ c k. refl) r.1
type_held (layers.PointerTo t) = s-with_rows _ (λ c k. refl) (s-both s-token (s-both s-token (s-within _ t.value.1)))
type_held (layers.ProcOf p) = s-with_rows _ (λ c k. refl) (s-block_type (s-both s-token (s-there parameters_rows p s-parameters)))

fields_held : (y : WithFields predicates) → Silent (told.fields_shown (fields_of predicates y))
fields_held y =
    s-both (s-declaring decl_kinds.Field y.first.1)
    (s-both (s-map (λ v. both token (declaring decl_kinds.Field (var_rows v))) _ y.rest.items (λ v. s-both s-token (s-declaring decl_kinds.Field v.1))) (s-so y.closing_semicolon s-token))

record_held : (y : WithRecord predicates) → Silent (told.record_shown (record_of predicates y))
record_held y = s-with_rows _ (λ c k. refl) (s-within _ (s-both s-token
    (s-both (s-there (λ q. both token (both (qualident_rows q) token)) y.base (λ q. s-both s-token (s-both (s-qualident q) s-token)))
    (s-both (record_fields predicates (λ o. Silent (if_present (λ f. fields_rows f.value) o)) s-nothing (λ f h. h) y) s-token))))

var_held : (y : WithVar predicates) → Silent (told.var_shown (var_of predicates y))
var_held y = s-both (s-identdef y.names.first)
    (s-both (s-each (λ i. both token (identdef_rows i)) y.names.rest.items (λ i. s-both s-token (s-identdef i))) (s-both s-token y.type_expr.1))

steps : TypeSteps predicates
steps = record {
  type = λ y. s-is (told.type_rolled _) (type_held y);
  fields = λ y. s-is (told.fields_rolled _) (fields_held y);
  record_type = λ y. s-is (told.record_rolled _) (record_held y);
  var = λ y. s-is (told.var_rolled _) (var_held y);
}

-- ---- sections and imports

s-part : {X : Type 0} (f : X → Fragment) (xs : List X) → ((x : X) → Silent (f x)) → Silent (part f xs)
s-part f xs w = s-both s-token (s-each (λ x. both (f x) token) xs (λ x. s-both (w x) s-token))

s-const : (d : ConstDecl) → Silent (const_rows d)
unfolding const_rows
s-const d = s-declaring decl_kinds.Constant (s-both (s-identdef d.name) (s-both s-token (s-expr d.value)))

s-type_decl : (d : TypeDecl) → Silent (type_decl_rows d)
unfolding type_decl_rows
s-type_decl d = s-declaring decl_kinds.Type (s-both (s-identdef d.name) (s-both s-token (type_induction predicates steps d.type_expr)))

s-variable : (d : VarDecl) → Silent (variable_rows d)
unfolding variable_rows
s-variable d = s-declaring decl_kinds.Variable (var_induction predicates steps d)

pub s-constants : (ds : List ConstDecl) → Silent (part const_rows ds)
s-constants ds = s-part const_rows ds s-const

pub s-types : (ds : List TypeDecl) → Silent (part type_decl_rows ds)
s-types ds = s-part type_decl_rows ds s-type_decl

pub s-variables : (ds : List VarDecl) → Silent (part variable_rows ds)
s-variables ds = s-part variable_rows ds s-variable

s-import : (i : ImportItem) → Silent (import_rows i)
unfolding import_rows import_inner
s-import i = s-declaring decl_kinds.Import (s-with_rows _ (λ c k. refl) (s-with_rows _ (λ c k. refl) (s-both s-token (s-there (λ m. both token token) i.of (λ m. s-both s-token s-token)))))

pub s-imports : (l : OneOrMore ImportItem) → Silent (imports_rows l)
unfolding imports_rows
s-imports l = s-both s-token (s-both (s-import l.first) (s-both (s-each (λ i. both token (import_rows i)) l.rest.items (λ i. s-both s-token (s-import i))) s-token))
