-- The records and the type components in a module.
use Rattle.std.proofs.Common.{◌≡◌, ◌+◌, ◌<◌, ◌≤◌, ℕ, zero, suc, false, inl, inr, List, [], ◌∷◌, Some, refl, arith}
use Rattle.std.specs.Prelude.{Contains}
use Rattle.ob_tree.specs.declared.name.OneOrMore.{OneOrMore}
use Rattle.ob_tree.specs.declared.declaration.ConstDecl.{ConstDecl}
use Rattle.ob_tree.specs.declared.declaration.TypeDecl.{TypeDecl}
use Rattle.ob_tree.specs.declared.declaration.VarDecl.{VarDecl}
use Rattle.ob_tree.specs.declared.declaration.ImportItem.{ImportItem}
use Rattle.ob_tree.specs.declared.declaration.Module.{Module}
use Rattle.ob_tree.specs.declared.declaration.Declarations.{Declarations}
use Rattle.ob_tree.proofs.DeclarationInduction.{DeclarationPredicates, DeclarationSteps, WithDeclarations, WithProcedure, declarations_of, procedure_of, declarations_induction}
use Rattle.module_table.specs.declared.rows.Declared.{Declared}
use Rattle.module_table.specs.declared.rows.DeclGroup.{DeclGroup}
use Rattle.module_table.specs.declared.rows.TypePart.{TypePart}
use Rattle.module_table.specs.declared.rows.Part.TheVariants as kinds
use Rattle.module_table.specs.declared.rows.Record.{Record}
use Rattle.module_table.specs.declared.rows.DeclKind.TheVariants as decl_kinds
use Rattle.module_table.specs.Parts.{Fragment, token, both, with_rows, joined, no_rows}
use Rattle.module_table.specs.Parts.{if_present as there}
use Rattle.table_rules.specs.Expressions.{expr_rows}
use Rattle.table_rules.specs.Statements.{block_rows}
use Rattle.table_rules.specs.Types.{identdef_rows, parameters_rows}
use Rattle.table_rules.specs.Declaring.{const_rows, type_decl_rows, variable_rows, module_end, declarations_rows, procedure_rows, import_inner, import_rows, imports_rows, module_rows, outermost, rows_of}
use Rattle.table_rules.specs.Declaring.{part as told_part}
use Rattle.table_rules.proofs.DeclarationLayers as told
use Rattle.table_laws.specs.Owners.{EndsTypeExpr, IsFieldOf, IsOfRecord}
use Rattle.table_laws.proofs.Plain.{b-both, b-with_rows, b-there, b-token}
use Rattle.table_laws.proofs.PlainExpressions.{b-expr}
use Rattle.table_laws.proofs.PlainStatements.{b-block}
use Rattle.table_laws.proofs.Standing.{Ends, FieldOf, Holds, In, OfRecord, Typed, core}
use Rattle.table_laws.proofs.StandingPieces.{Free, Loose, l-both, l-plain, l-with_rows, m-declared, o-loose, s-both, s-each, s-is, s-map, s-mute, s-opens, s-plain, s-there}
use Rattle.table_laws.proofs.StandingDeclarations.{identdef_some, m-identdef, o-procedure, s-type, s-variable, t-held}
use Rattle.table_laws.proofs.StandingTypes.{s-parameters, s-type_rows, t-var}

behind : (p q : Fragment) → 0 < p.width → 0 < (both p q).width
unfolding both
behind p q some = omega arith

s-const : (c : ConstDecl) → Free (const_rows c)
unfolding const_rows
s-const c = s-opens decl_kinds.Constant (λ r. refl) (o-loose (behind (identdef_rows c.name) _ (identdef_some c.name)) (l-both (m-identdef c.name).loose (l-plain (b-both b-token (b-expr c.value)))))

s-type_decl : (t : TypeDecl) → Free (type_decl_rows t)
unfolding type_decl_rows
s-type_decl t = s-type (t-held t.name (s-both (s-plain b-token) (s-type_rows t.type_expr)))

s-variables : (v : VarDecl) → Free (variable_rows v)
unfolding variable_rows
s-variables v = s-variable (t-var v)

import_some : (i : ImportItem) → 0 < (import_inner i).width
unfolding import_inner with_rows both token
import_some i = omega arith

l-import : (i : ImportItem) → Loose (import_inner i)
unfolding import_inner
l-import i = l-with_rows _ (λ c k. refl) (m-declared false (b-both b-token (b-there (λ m. both token token) i.of (λ m. b-both b-token b-token)))).loose

s-import : (i : ImportItem) → Free (import_rows i)
unfolding import_rows
s-import i = s-opens decl_kinds.Import (λ r. refl) (o-loose (import_some i) (l-import i))

s-imports : (l : OneOrMore ImportItem) → Free (imports_rows l)
unfolding imports_rows
s-imports l = s-both (s-plain b-token) (s-both (s-import l.first) (s-both (s-each (λ i. both token (import_rows i)) l.rest.items (λ i. s-both (s-plain b-token) (s-import i))) (s-plain b-token)))

s-part_of : {X : Type 0} (f : X → Fragment) (xs : List X) → ((x : X) → Free (f x)) → Free (told_part f xs)
s-part_of f xs w = s-both (s-plain b-token) (s-each (λ x. both (f x) token) xs (λ x. s-both (w x) (s-plain b-token)))

abbrev predicates : DeclarationPredicates
predicates = record {
  declarations = λ t. Free (declarations_rows t);
  procedure = λ t. Free (procedure_rows t);
}

declarations_held : (y : WithDeclarations predicates) → Free (told.declarations_shown (declarations_of predicates y))
declarations_held y =
    s-both (s-there (λ v. told_part const_rows v.items) y.constants (λ v. s-part_of const_rows v.items s-const))
    (s-both (s-there (λ v. told_part type_decl_rows v.items) y.types (λ v. s-part_of type_decl_rows v.items s-type_decl))
    (s-both (s-there (λ v. told_part variable_rows v.items) y.variables (λ v. s-part_of variable_rows v.items s-variables))
    (s-map (λ p. both (procedure_rows p) token) _ y.procedures.items (λ p. s-both p.1 (s-plain b-token)))))

procedure_held : (y : WithProcedure predicates) → Free (told.procedure_shown (procedure_of predicates y))
procedure_held y = s-opens decl_kinds.Procedure (λ r. refl) (o-procedure (
    s-both (s-mute (m-identdef y.name)) (s-both (s-there parameters_rows y.parameters s-parameters) (s-both (s-plain b-token)
    (s-both y.declarations.1 (s-both (s-plain (b-there (λ b. both token (block_rows b.value)) y.body (λ b. b-both b-token (b-block b.value))))
    (s-both (s-plain (b-there (λ e. both token (expr_rows e.value)) y.returned (λ e. b-both b-token (b-expr e.value))))
    (s-both (s-plain b-token) (s-plain (b-with_rows _ (λ c k. refl) b-token))))))))))

steps : DeclarationSteps predicates
steps = record {
  declarations = λ y. s-is (told.declarations_made _) (declarations_held y);
  procedure = λ y. s-is (told.procedure_made _) (procedure_held y);
}

s-declarations : (d : Declarations) → Free (declarations_rows d)
s-declarations = declarations_induction predicates steps

-- what follows the word MODULE
abbrev module_inner : Module → Fragment
module_inner m =
    both token (both token (
    both (there imports_rows m.imports) (
    both (declarations_rows m.declarations) (both (there (λ b. both token (block_rows b)) m.body) (both token (both (with_rows module_end token) token))))))

s-inner : (m : Module) → Free (module_inner m)
s-inner m =
    s-both (s-plain b-token) (s-both (s-plain b-token)
    (s-both (s-there imports_rows m.imports s-imports)
    (s-both (s-declarations m.declarations) (s-both (s-plain (b-there (λ b. both token (block_rows b)) m.body (λ b. b-both b-token (b-block b))))
    (s-both (s-plain b-token) (s-both (s-plain (b-with_rows _ (λ c k. refl) b-token)) (s-plain b-token)))))))

module_holds : (m : Module) → Holds ⊥ ⊥ ⊥ 0 0 0 1 (1 + (module_inner m).width) (core (rows_of m))
unfolding module_rows both token joined no_rows
module_holds m = (s-inner m).holds outermost 1 (omega arith)

-- ---- laws

among : {X : Type 0} (x : X) (xs : List X) → Contains xs x → In x xs
unfolding In
among x [] (k, l, e) = absurd (omega arith)
among x (y ∷ ys) (zero, l, e) = inl e
among x (y ∷ ys) (suc k, l, e) = inr (among x ys (k, omega arith, e))

contained : {X : Type 0} (x : X) (xs : List X) → In x xs → Contains xs x
unfolding In
contained x [] h = absurd h
contained x (y ∷ ys) h = elim h [ inl e ↦ (0, omega arith, e) | inr i ↦ (let c = contained x ys i in (suc c.0, (let l = c.1 in omega arith), c.2)) ]

pub ends_form : (m : Module) (r : Record) → Contains (rows_of m).records r → EndsTypeExpr (rows_of m) r
ends_form m r h =
    let e : Ends (rows_of m).parts r = (module_holds m).forms r (among r (rows_of m).records h) in
    record { part = e.part; among = contained e.part (rows_of m).parts e.among; declared_by = e.declared_by; number = e.number; is = e.is; last = λ q i s. e.last q (among q (rows_of m).parts i) s }

pub of_record : (m : Module) (q : TypePart) → Contains (rows_of m).parts q → q.part ≡ kinds.Record → IsOfRecord (rows_of m) q
of_record m q h s =
    let e : OfRecord (rows_of m).records q = (module_holds m).told q (among q (rows_of m).parts h) s in
    record { row = e.row; among = contained e.row (rows_of m).records e.among; number = e.number; owner = e.owner }

field_of : (m : Module) (f : DeclGroup) (r : ℕ) → FieldOf ⊥ 0 0 (core (rows_of m)) f r → IsFieldOf (rows_of m) f r
field_of m f r o =
    let t : Typed (core (rows_of m)) o.row.owner f.block = elim o.owner [ inl n ↦ absurd n.0 | inr z ↦ z ] in
    record {
      row = o.row;
      among = contained o.row (rows_of m).records o.among;
      number = o.number;
      before = o.before;
      by = t.by;
      by_among = contained t.by (rows_of m).decl_groups t.among;
      first = t.first;
      block = t.block;
      decl_kind = t.decl_kind;
      declared = t.row;
      declared_among = contained t.row (rows_of m).declared t.there;
      declared_number = t.number;
      declared_by = t.declared_by;
    }

pub has_owner : (m : Module) (f : DeclGroup) (r : ℕ) → Contains (rows_of m).decl_groups f → f.of_record ≡ Some r → IsFieldOf (rows_of m) f r
has_owner m f r h s = elim ((module_holds m).fields f r (among f (rows_of m).decl_groups h) s) [ inl n ↦ absurd n.0 | inr o ↦ field_of m f r o ]

pub behind_first : (m : Module) (d : Declared) → Contains (rows_of m).declared d → d.declared_by ≤ d.number
behind_first m d h = (module_holds m).marks d (among d (rows_of m).declared h)
