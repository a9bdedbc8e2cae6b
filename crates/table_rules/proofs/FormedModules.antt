-- The components of each type expression in a module are adjacent.
use Rattle.std.proofs.Common.{List, refl, ◌+◌}
use Rattle.ob_tree.specs.declared.name.OneOrMore.{OneOrMore}
use Rattle.ob_tree.specs.declared.declaration.ConstDecl.{ConstDecl}
use Rattle.ob_tree.specs.declared.declaration.TypeDecl.{TypeDecl}
use Rattle.ob_tree.specs.declared.declaration.VarDecl.{VarDecl}
use Rattle.ob_tree.specs.declared.declaration.ImportItem.{ImportItem}
use Rattle.ob_tree.specs.declared.declaration.Module.{Module}
use Rattle.ob_tree.specs.declared.declaration.Declarations.{Declarations}
use Rattle.ob_tree.proofs.DeclarationInduction.{DeclarationPredicates, DeclarationSteps, WithDeclarations, WithProcedure, declarations_of, procedure_of, declarations_induction}
use Rattle.module_table.specs.declared.rows.DeclKind.TheVariants as decl_kinds
use Rattle.module_table.specs.Parts.{Fragment, token, both, with_rows}
use Rattle.module_table.specs.Parts.{if_present as there}
use Rattle.table_rules.specs.Expressions.{expr_rows}
use Rattle.table_rules.specs.Statements.{block_rows}
use Rattle.table_rules.specs.Types.{parameters_rows}
use Rattle.table_rules.specs.Declaring.{const_rows, type_decl_rows, variable_rows, procedure_end, declarations_rows, procedure_rows, import_inner, import_rows, imports_rows, module_rows}
use Rattle.table_rules.specs.Declaring.{part as told_part}
use Rattle.table_rules.proofs.DeclarationLayers as told
use Rattle.module_table.specs.declared.rows.TypePart.{TypePart}
use Rattle.module_table.specs.Order.{IsMonotoneBy}
use Rattle.table_rules.specs.Declaring.{module_end, rows_of, outermost}
use Rattle.table_rules.proofs.Lined.{rises}
use Rattle.table_rules.proofs.QuietExpressions.{q-expr}
use Rattle.table_rules.proofs.QuietStatements.{q-block}
use Rattle.table_rules.proofs.Formed.{Formless, Free, Lacks, Rises, n-quiet, n-token, n-both, n-with_rows, n-there, o-none, f-none, f-both, f-is, f-each, f-map, f-there, f-opens_block, f-declaring, l-free, l-own, l-behind, r-both, r-free, r-lacks, lacks, k-both, k-declaring, k-each, k-with_rows, k-there}
use Rattle.table_rules.proofs.FormedTypes.{n-identdef, f-parameters, l-type, l-var}

f-const : (c : ConstDecl) → Free (const_rows c)
unfolding const_rows
f-const c = f-declaring decl_kinds.Constant (l-own (o-none (n-both (n-identdef c.name) (n-both n-token (n-quiet (q-expr c.value))))))

f-type_decl : (t : TypeDecl) → Free (type_decl_rows t)
unfolding type_decl_rows
f-type_decl t = f-declaring decl_kinds.Type (l-behind (o-none (n-identdef t.name)) (l-behind (o-none n-token) (l-type t.type_expr)))

f-variables : (v : VarDecl) → Free (variable_rows v)
unfolding variable_rows
f-variables v = f-declaring decl_kinds.Variable (l-var v)

f-part : {X : Type 0} (f : X → Fragment) (xs : List X) → ((x : X) → Free (f x)) → Free (told_part f xs)
f-part f xs w = f-both (f-none n-token) (f-each (λ x. both (f x) token) xs (λ x. f-both (w x) (f-none n-token)))

abbrev predicates : DeclarationPredicates
predicates = record {
  declarations = λ t. Free (declarations_rows t);
  procedure = λ t. Free (procedure_rows t);
}

declarations_held : (y : WithDeclarations predicates) → Free (told.declarations_shown (declarations_of predicates y))
declarations_held y =
    f-both (f-there (λ v. told_part const_rows v.items) y.constants (λ v. f-part const_rows v.items f-const))
    (f-both (f-there (λ v. told_part type_decl_rows v.items) y.types (λ v. f-part type_decl_rows v.items f-type_decl))
    (f-both (f-there (λ v. told_part variable_rows v.items) y.variables (λ v. f-part variable_rows v.items f-variables))
    (f-map (λ p. both (procedure_rows p) token) _ y.procedures.items (λ p. f-both p.1 (f-none n-token)))))

procedure_held : (y : WithProcedure predicates) → Free (told.procedure_shown (procedure_of predicates y))
procedure_held y = f-declaring decl_kinds.Procedure (l-free (f-opens_block (
    f-both (f-none n-token) (f-both (f-none (n-identdef y.name)) (f-both (f-there parameters_rows y.parameters f-parameters) (f-both (f-none n-token)
    (f-both y.declarations.1 (f-both (f-none (n-there (λ b. both token (block_rows b.value)) y.body (λ b. n-both n-token (n-quiet (q-block b.value)))))
    (f-both (f-none (n-there (λ e. both token (expr_rows e.value)) y.returned (λ e. n-both n-token (n-quiet (q-expr e.value)))))
    (f-none (n-both n-token (n-with_rows procedure_end (λ c k. refl) (λ c k. refl) n-token))))))))))))

steps : DeclarationSteps predicates
steps = record {
  declarations = λ y. f-is (told.declarations_made _) (declarations_held y);
  procedure = λ y. f-is (told.procedure_made _) (procedure_held y);
}

pub f-declarations : (d : Declarations) → Free (declarations_rows d)
f-declarations = declarations_induction predicates steps

k-import : (i : ImportItem) → Lacks (import_rows i)
unfolding import_rows import_inner
k-import i = k-declaring decl_kinds.Import (k-with_rows _ (λ c k. refl) (k-with_rows _ (λ c k. refl) (lacks (n-both n-token (n-there (λ m. both token token) i.of (λ m. n-both n-token n-token))))))

k-imports : (l : OneOrMore ImportItem) → Lacks (imports_rows l)
unfolding imports_rows
k-imports l = k-both (lacks n-token) (k-both (k-import l.first) (k-both (k-each (λ i. both token (import_rows i)) l.rest.items (λ i. k-both (lacks n-token) (k-import i))) (lacks n-token)))

-- what follows the declarations
pub n-end : (m : Module) → Formless (both (there (λ b. both token (block_rows b)) m.body) (both token (both (with_rows module_end token) token)))
n-end m = n-both (n-there (λ b. both token (block_rows b)) m.body (λ b. n-both n-token (n-quiet (q-block b)))) (n-both n-token (n-both (n-with_rows module_end (λ c k. refl) (λ c k. refl) n-token) n-token))

r-module : (m : Module) → Rises (module_rows m)
unfolding module_rows
r-module m =
    let t : Rises token = r-lacks (lacks n-token) in
    r-both t (r-both t (r-both t (r-both (r-lacks (k-there imports_rows m.imports k-imports)) (r-both (r-free (f-declarations m.declarations)) (r-lacks (lacks (n-end m)))))))

-- so the declaration groups of the components never decrease
pub forms_rise : (m : Module) → IsMonotoneBy (λ (p : TypePart). p.declared_by) (rows_of m).parts
forms_rise m = rises (λ (p : TypePart). p.declared_by) 0 (0 + (module_rows m).width) (rows_of m).parts ((r-module m).rising outermost 0)
