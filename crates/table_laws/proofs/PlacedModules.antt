-- The context of each entry of a module.
use Rattle.std.proofs.Common.{List}
use Rattle.ob_tree.specs.declared.name.OneOrMore.{OneOrMore}
use Rattle.ob_tree.specs.declared.declaration.ConstDecl.{ConstDecl}
use Rattle.ob_tree.specs.declared.declaration.TypeDecl.{TypeDecl}
use Rattle.ob_tree.specs.declared.declaration.VarDecl.{VarDecl}
use Rattle.ob_tree.specs.declared.declaration.ImportItem.{ImportItem}
use Rattle.ob_tree.specs.declared.declaration.Module.{Module}
use Rattle.ob_tree.specs.declared.declaration.Declarations.{Declarations}
use Rattle.ob_tree.proofs.DeclarationInduction.{DeclarationPredicates, DeclarationSteps, WithDeclarations, WithProcedure, declarations_of, procedure_of, declarations_induction}
use Rattle.module_table.specs.Parts.{Fragment, token, both}
use Rattle.table_rules.specs.Expressions.{expr_rows}
use Rattle.table_rules.specs.Statements.{block_rows}
use Rattle.table_rules.specs.Types.{parameters_rows}
use Rattle.table_rules.specs.Declaring.{const_rows, type_decl_rows, variable_rows, declarations_rows, procedure_rows, import_rows, imports_rows, module_rows}
use Rattle.table_rules.specs.Declaring.{part as told_part}
use Rattle.table_rules.proofs.DeclarationLayers as told
use Rattle.table_rules.specs.Declaring.{rows_of, outermost}
use Rattle.std.proofs.Common.{ℕ}
use Rattle.table_rules.specs.Declaring.{outermost, rows_of}
use Rattle.module_table.specs.Parts.{Rows}
use Rattle.table_laws.proofs.Bare.{Context}
use Rattle.table_rules.proofs.QuietExpressions.{q-expr}
use Rattle.table_rules.proofs.QuietStatements.{q-block}
use Rattle.table_laws.proofs.OwnedTypes.{identdef_some}
use Rattle.table_laws.proofs.Placed.{Free, Good, Holds, ended_later, free, free_later, g-both, g-constant, g-each, g-ends, g-finishes, g-free, g-import, g-is, g-map, g-owner, g-procedure, g-quiet, g-there, g-type, g-variable, typed_later}
use Rattle.table_laws.proofs.PlacedTypes.{g-type_expr, g-parameters, g-variables}
use Rattle.table_rules.proofs.Quiet.{q-both, q-there, q-token}

module _ (R : Rows) where
  g-token : {Pre : Context → ℕ → Type 0} → Good R Pre token
  g-token = g-quiet R q-token

  g-const : (c : ConstDecl) → Good R (Free R) (const_rows c)
  unfolding const_rows
  g-const c = g-constant R (g-owner R c.name (identdef_some c.name) (g-quiet R (q-both q-token (q-expr c.value))))

  g-type_decl : (t : TypeDecl) → Good R (Free R) (type_decl_rows t)
  unfolding type_decl_rows
  g-type_decl t = g-type R (g-owner R t.name (identdef_some t.name) (g-both R (typed_later R) g-token (g-type_expr R t.type_expr)))

  g-variable_decl : (v : VarDecl) → Good R (Free R) (variable_rows v)
  unfolding variable_rows
  g-variable_decl v = g-variable R (g-variables R v)

  g-part : {X : Type 0} (f : X → Fragment) (xs : List X) → ((x : X) → Good R (Free R) (f x)) → Good R (Free R) (told_part f xs)
  g-part f xs w = g-both R (free_later R) g-token (g-each R (λ x. both (f x) token) xs (free_later R) (λ x. g-both R (free_later R) (w x) g-token))

  abbrev predicates : DeclarationPredicates
  predicates = record {
    declarations = λ t. Good R (Free R) (declarations_rows t);
    procedure = λ t. Good R (Free R) (procedure_rows t);
  }

  declarations_held : (y : WithDeclarations predicates) → Good R (Free R) (told.declarations_shown (declarations_of predicates y))
  declarations_held y =
      g-both R (free_later R) (g-there R (λ v. told_part const_rows v.items) y.constants (λ v. g-part const_rows v.items g-const))
      (g-both R (free_later R) (g-there R (λ v. told_part type_decl_rows v.items) y.types (λ v. g-part type_decl_rows v.items g-type_decl))
      (g-both R (free_later R) (g-there R (λ v. told_part variable_rows v.items) y.variables (λ v. g-part variable_rows v.items g-variable_decl))
      (g-map R (λ p. both (procedure_rows p) token) _ y.procedures.items (free_later R) (λ p. g-both R (free_later R) p.1 g-token))))

  procedure_held : (y : WithProcedure predicates) → Good R (Free R) (told.procedure_shown (procedure_of predicates y))
  procedure_held y = g-procedure R y.name (
      g-both R (ended_later R) (g-free R (g-there R parameters_rows y.parameters (g-parameters R))) (g-both R (ended_later R) g-token
      (g-both R (ended_later R) (g-free R y.declarations.1) (g-both R (ended_later R) (g-quiet R (q-there (λ b. both token (block_rows b.value)) y.body (λ b. q-both q-token (q-block b.value))))
      (g-both R (ended_later R) (g-quiet R (q-there (λ e. both token (expr_rows e.value)) y.returned (λ e. q-both q-token (q-expr e.value))))
      (g-both R (ended_later R) g-token (g-ends R)))))))

  steps : DeclarationSteps predicates
  steps = record {
    declarations = λ y. g-is R (told.declarations_made _) (declarations_held y);
    procedure = λ y. g-is R (told.procedure_made _) (procedure_held y);
  }

  g-declarations : (d : Declarations) → Good R (Free R) (declarations_rows d)
  g-declarations = declarations_induction predicates steps

  g-imports : (l : OneOrMore ImportItem) → Good R (Free R) (imports_rows l)
  unfolding imports_rows
  g-imports l = g-both R (free_later R) g-token (g-both R (free_later R) (g-import R l.first) (g-both R (free_later R)
      (g-each R (λ i. both token (import_rows i)) l.rest.items (free_later R) (λ i. g-both R (free_later R) g-token (g-import R i))) g-token))

  g-module : (m : Module) → Good R (Free R) (module_rows m)
  unfolding module_rows
  g-module m =
      g-both R (free_later R) g-token (g-both R (free_later R) g-token (g-both R (free_later R) g-token
      (g-both R (free_later R) (g-there R imports_rows m.imports g-imports)
      (g-both R (free_later R) (g-declarations m.declarations) (g-both R (free_later R) (g-quiet R (q-there (λ b. both token (block_rows b)) m.body (λ b. q-both q-token (q-block b))))
      (g-both R (free_later R) g-token (g-both R (free_later R) (g-finishes R) g-token)))))))

-- for the entries of a tree
pub module_holds : (m : Module) → Holds (rows_of m) (rows_of m)
module_holds m = (g-module (rows_of m) m).holds outermost 0 (free (rows_of m) outermost 0) (record { declared = λ x h. h; decl_groups = λ x h. h; records = λ x h. h; imports = λ x h. h })
