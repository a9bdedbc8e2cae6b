-- The records in a module.
use Rattle.std.proofs.Common.{◌≡◌, List, refl, ap, ◌∙◌}
use Rattle.ob_tree.specs.declared.name.OneOrMore.{OneOrMore}
use Rattle.ob_tree.specs.declared.declaration.ConstDecl.{ConstDecl}
use Rattle.ob_tree.specs.declared.declaration.TypeDecl.{TypeDecl}
use Rattle.ob_tree.specs.declared.declaration.VarDecl.{VarDecl}
use Rattle.ob_tree.specs.declared.declaration.ImportItem.{ImportItem}
use Rattle.ob_tree.specs.declared.declaration.Module.{Module}
use Rattle.ob_tree.specs.declared.declaration.Declarations.{Declarations}
use Rattle.ob_tree.proofs.DeclarationInduction.{DeclarationPredicates, DeclarationSteps, WithDeclarations, WithProcedure, declarations_of, procedure_of, declarations_induction}
use Rattle.module_table.specs.declared.rows.DeclKind.TheVariants as decl_kinds
use Rattle.module_table.specs.Parts.{Fragment, token, both}
use Rattle.table_rules.specs.Expressions.{expr_rows}
use Rattle.table_rules.specs.Statements.{block_rows}
use Rattle.table_rules.specs.Types.{parameters_rows}
use Rattle.table_rules.specs.Declaring.{const_rows, type_decl_rows, variable_rows, declarations_rows, procedure_rows, import_inner, import_rows, imports_rows, module_rows}
use Rattle.table_rules.specs.Declaring.{part as told_part}
use Rattle.table_rules.proofs.DeclarationLayers as told
use Rattle.std.proofs.Common.{◌<◌, ◌≡◌, ℕ, Some, arith}
use Rattle.std.specs.Prelude.{Contains, slice_get}
use Rattle.std.proofs.lemmas.Option.{slice_get-get_or}
use Rattle.module_table.specs.declared.rows.Record.{Record as RecordRow}
use Rattle.table_rules.specs.Declaring.{rows_of, outermost}
use Rattle.table_laws.proofs.Bare.{Bare, b-both, b-declaring, b-each, b-first, b-with_rows, b-there, b-token}
use Rattle.table_laws.proofs.BareExpressions.{b-expr}
use Rattle.table_laws.proofs.BareStatements.{b-block}
use Rattle.table_laws.proofs.Owned.{Declares, Free, Once, d-free, d-held, d-opens_block, f-bare, f-both, f-declaring, f-each, f-is, f-map, f-there, h-bare, h-behind, one_record}
use Rattle.table_laws.proofs.OwnedTypes.{b-identdef, b-parameters, d-var, h-type, identdef_some}

token_some : 0 < token.width
unfolding token
token_some = omega arith

f-const : (c : ConstDecl) → Free (const_rows c)
unfolding const_rows
f-const c = f-declaring decl_kinds.Constant (d-held (b-identdef c.name) (identdef_some c.name) (h-bare (b-both b-token (b-expr c.value))))

f-type_decl : (t : TypeDecl) → Free (type_decl_rows t)
unfolding type_decl_rows
f-type_decl t = f-declaring decl_kinds.Type (d-held (b-identdef t.name) (identdef_some t.name) (h-behind b-token (h-type t.type_expr)))

f-variables : (v : VarDecl) → Free (variable_rows v)
unfolding variable_rows
f-variables v = f-declaring decl_kinds.Variable (d-var v)

b-import : (i : ImportItem) → Bare (import_rows i)
unfolding import_rows import_inner
b-import i = b-declaring decl_kinds.Import (b-with_rows _ (λ c k. refl) (b-first _ (λ c k. refl) (b-there (λ m. both token token) i.of (λ m. b-both b-token b-token))))

f-part : {X : Type 0} (f : X → Fragment) (xs : List X) → ((x : X) → Free (f x)) → Free (told_part f xs)
f-part f xs w = f-both (f-bare b-token) (f-each (λ x. both (f x) token) xs (λ x. f-both (w x) (f-bare b-token)))

abbrev predicates : DeclarationPredicates
predicates = record {
  declarations = λ t. Free (declarations_rows t);
  procedure = λ t. Free (procedure_rows t);
}

declarations_held : (y : WithDeclarations predicates) → Free (told.declarations_shown (declarations_of predicates y))
declarations_held y =
    f-both (f-there (λ v. told_part const_rows v.items) y.constants (λ v. f-part const_rows v.items f-const))
    (f-both (f-there (λ v. told_part type_decl_rows v.items) y.types (λ v. f-part type_decl_rows v.items f-type_decl))
    (f-both (f-there (λ v. told_part variable_rows v.items) y.variables (λ v. f-part variable_rows v.items f-variables))
    (f-map (λ p. both (procedure_rows p) token) _ y.procedures.items (λ p. f-both p.1 (f-bare b-token)))))

procedure_held : (y : WithProcedure predicates) → Free (told.procedure_shown (procedure_of predicates y))
procedure_held y = f-declaring decl_kinds.Procedure (d-opens_block (
    d-free b-token token_some (f-both (f-bare (b-identdef y.name)) (f-both (f-bare (b-there parameters_rows y.parameters b-parameters)) (f-both (f-bare b-token)
    (f-both y.declarations.1 (f-both (f-bare (b-there (λ b. both token (block_rows b.value)) y.body (λ b. b-both b-token (b-block b.value))))
    (f-both (f-bare (b-there (λ e. both token (expr_rows e.value)) y.returned (λ e. b-both b-token (b-expr e.value))))
    (f-both (f-bare b-token) (f-bare (b-with_rows _ (λ c k. refl) b-token)))))))))))

steps : DeclarationSteps predicates
steps = record {
  declarations = λ y. f-is (told.declarations_made _) (declarations_held y);
  procedure = λ y. f-is (told.procedure_made _) (procedure_held y);
}

f-declarations : (d : Declarations) → Free (declarations_rows d)
f-declarations = declarations_induction predicates steps

b-imports : (l : OneOrMore ImportItem) → Bare (imports_rows l)
unfolding imports_rows
b-imports l = b-both b-token (b-both (b-import l.first) (b-both (b-each (λ i. both token (import_rows i)) l.rest.items (λ i. b-both b-token (b-import i))) b-token))

d-module : (m : Module) → Declares (module_rows m)
unfolding module_rows
d-module m =
    d-free b-token token_some (f-both (f-bare b-token) (f-both (f-bare b-token)
    (f-both (f-bare (b-there imports_rows m.imports b-imports))
    (f-both (f-declarations m.declarations) (f-both (f-bare (b-there (λ b. both token (block_rows b)) m.body (λ b. b-both b-token (b-block b))))
    (f-both (f-bare b-token) (f-both (f-bare (b-with_rows _ (λ c k. refl) b-token)) (f-bare b-token))))))))

slice_contains : {X : Type 0} (xs : List X) (x : X) → Contains xs x → (k : ℕ) × (slice_get xs k ≡ Some x)
slice_contains xs x h = (h.0, slice_get-get_or xs h.0 x h.1 ∙ ap Some h.2)

-- a declaration owns one record
pub owns_one : (m : Module) (r s : RecordRow) → Contains (rows_of m).records r → Contains (rows_of m).records s → r.owner ≡ s.owner → r.number ≡ s.number
owns_one m r s h j e =
    let o : Once (rows_of m).records = (d-module m).once outermost 0 refl in
    let a = slice_contains (rows_of m).records r h in
    let b = slice_contains (rows_of m).records s j in
    ap (λ (x : RecordRow). x.number) (one_record (rows_of m).records a.0 b.0 r s o a.1 b.1 e)
