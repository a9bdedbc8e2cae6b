-- The names in each block of a module are contiguous.
use Rattle.std.proofs.Common.{List, refl, ℕ, ◌+◌}
use Rattle.ob_tree.specs.declared.name.OneOrMore.{OneOrMore}
use Rattle.ob_tree.specs.declared.declaration.ConstDecl.{ConstDecl}
use Rattle.ob_tree.specs.declared.declaration.TypeDecl.{TypeDecl}
use Rattle.ob_tree.specs.declared.declaration.VarDecl.{VarDecl}
use Rattle.ob_tree.specs.declared.declaration.ImportItem.{ImportItem}
use Rattle.ob_tree.specs.declared.declaration.Module.{Module}
use Rattle.ob_tree.specs.declared.declaration.Declarations.{Declarations}
use Rattle.module_table.specs.declared.rows.DeclKind.TheVariants as decl_kinds
use Rattle.module_table.specs.Parts.{Fragment, token, both, with_rows, opens_block}
use Rattle.module_table.specs.Parts.{if_present as there}
use Rattle.table_rules.specs.Expressions.{expr_rows}
use Rattle.table_rules.specs.Statements.{block_rows}
use Rattle.table_rules.specs.Types.{identdef_rows, parameters_rows}
use Rattle.table_rules.specs.Declaring.{const_rows, type_decl_rows, variable_rows, procedure_end, declarations_rows, procedure_rows, import_inner, import_rows, imports_rows, module_rows}
use Rattle.table_rules.specs.Declaring.{part as told_part}
use Rattle.table_rules.proofs.DeclarationLayers as told
use Rattle.std.proofs.Common.{false, ◌<◌, ◌≤◌, inl, inr, arith}
use Rattle.module_table.specs.declared.rows.Block.{Block}
use Rattle.module_table.specs.Blocks.{AreBlocksContiguous, Encloses, OccursIn}
use Rattle.module_table.specs.Order.{IsIncreasingBy}
use Rattle.module_table.specs.Parts.{Rows, no_rows, joined}
use Rattle.module_table.proofs.Around.{around-le, around_all}
use Rattle.table_rules.specs.Declaring.{module_end, rows_of, outermost}
use Rattle.table_rules.proofs.LinedModules.{rows_in_order}
use Rattle.table_rules.proofs.Nested.{Nest}
use Rattle.table_rules.proofs.QuietStatements.{q-block}
use Rattle.ob_tree.specs.declared.name.Identdef.{Identdef}
use Rattle.ob_tree.proofs.DeclarationInduction.{DeclarationPredicates, DeclarationSteps, WithDeclarations, WithProcedure, declarations_of, procedure_of, declarations_induction}
use Rattle.module_table.specs.Parts.{within}
use Rattle.table_rules.proofs.NestedPieces.{Stands, n-declares, n-with_rows, n-there, n-both, n-token, o-more, o-names, o-procedure, o-stands, p-quiet, s-both, s-declaring, s-each, s-is, s-map, s-nothing, s-plain, s-with_rows, s-there, s-token, stands_from}
use Rattle.table_rules.proofs.NestedTypes.{n-identdef, identdef_first, identdef_some, some_both, s-expr, s-parameters, s-type, b-var}

import_some : (i : ImportItem) → 0 < (import_inner i).width
unfolding import_inner with_rows both token
import_some i = omega arith

procedure_some : (p : Fragment) → 0 < (opens_block (both token p)).width
unfolding with_rows within both token
procedure_some p = omega arith

-- what follows a module's own name
abbrev behind_name : Module → Fragment
behind_name m = both token (both (there imports_rows m.imports) (both (declarations_rows m.declarations) (both (there (λ b. both token (block_rows b)) m.body)
    (both token (both (with_rows module_end token) token)))))

module _ (B : List Block) (up : IsIncreasingBy (λ (b : Block). b.first) B) where
  abbrev S : Fragment → Type 0
  S p = Stands B p

  one_name : (i : Identdef) → 1 ≤ 0 + (identdef_rows i).width
  one_name i = let l = identdef_some i in omega arith

  s-const : (c : ConstDecl) → S (const_rows c)
  unfolding const_rows
  s-const c = s-declaring B decl_kinds.Constant (some_both _ _ (identdef_some c.name)) (o-more B 0 1 (one_name c.name) (n-identdef c.name) (o-stands B (s-both B (s-token B) (s-expr B up c.value))))

  s-type_decl : (t : TypeDecl) → S (type_decl_rows t)
  unfolding type_decl_rows
  s-type_decl t = s-declaring B decl_kinds.Type (some_both _ _ (identdef_some t.name)) (o-more B 0 1 (one_name t.name) (n-identdef t.name) (o-stands B (s-both B (s-token B) (s-type B up t.type_expr))))

  s-variables : (v : VarDecl) → S (variable_rows v)
  unfolding variable_rows
  s-variables v = s-declaring B decl_kinds.Variable (b-var B up v).some (b-var B up v).opens

  s-import : (i : ImportItem) → S (import_rows i)
  unfolding import_rows import_inner
  s-import i = s-declaring B decl_kinds.Import (import_some i) (o-names B 0 (n-with_rows _ (λ c k. refl) (λ c k. refl) (λ c k. refl) (n-declares false (n-there (λ m. both token token) i.of (λ m. n-both n-token n-token)))))

  s-part : {X : Type 0} (f : X → Fragment) (xs : List X) → ((x : X) → S (f x)) → S (told_part f xs)
  s-part f xs w = s-both B (s-token B) (s-each B (λ x. both (f x) token) xs (λ x. s-both B (w x) (s-token B)) (s-nothing B))

  abbrev predicates : DeclarationPredicates
  predicates = record {
    declarations = λ t. S (declarations_rows t);
    procedure = λ t. S (procedure_rows t);
  }

  declarations_held : (y : WithDeclarations predicates) → S (told.declarations_shown (declarations_of predicates y))
  declarations_held y =
      s-both B (s-there B (λ v. told_part const_rows v.items) y.constants (λ v. s-part const_rows v.items s-const) (s-nothing B))
      (s-both B (s-there B (λ v. told_part type_decl_rows v.items) y.types (λ v. s-part type_decl_rows v.items s-type_decl) (s-nothing B))
      (s-both B (s-there B (λ v. told_part variable_rows v.items) y.variables (λ v. s-part variable_rows v.items s-variables) (s-nothing B))
      (s-map B (λ p. both (procedure_rows p) token) _ y.procedures.items (λ p. s-both B p.1 (s-token B)) (s-nothing B))))

  procedure_held : (y : WithProcedure predicates) → S (told.procedure_shown (procedure_of predicates y))
  procedure_held y = s-declaring B decl_kinds.Procedure (procedure_some _) (o-procedure B up (n-identdef y.name) (identdef_first y.name) (identdef_some y.name) (
      s-both B (s-there B parameters_rows y.parameters (s-parameters B up) (s-nothing B)) (s-both B (s-token B)
      (s-both B y.declarations.1 (s-both B (s-there B (λ b. both token (block_rows b.value)) y.body (λ b. s-both B (s-token B) (s-plain B (p-quiet (q-block b.value)))) (s-nothing B))
      (s-both B (s-there B (λ e. both token (expr_rows e.value)) y.returned (λ e. s-both B (s-token B) (s-expr B up e.value)) (s-nothing B))
      (s-both B (s-token B) (s-with_rows B procedure_end (λ c k. refl) (λ c k. refl) (λ c k. refl) (s-token B)))))))))

  steps : DeclarationSteps predicates
  steps = record {
    declarations = λ y. s-is B (told.declarations_made _) (declarations_held y);
    procedure = λ y. s-is B (told.procedure_made _) (procedure_held y);
  }

  s-declarations : (d : Declarations) → S (declarations_rows d)
  s-declarations = declarations_induction predicates steps

  s-imports : (l : OneOrMore ImportItem) → S (imports_rows l)
  unfolding imports_rows
  s-imports l = s-both B (s-token B) (s-both B (s-import l.first) (s-both B (s-each B (λ i. both token (import_rows i)) l.rest.items (λ i. s-both B (s-token B) (s-import i)) (s-nothing B)) (s-token B)))

  s-behind : (m : Module) → S (behind_name m)
  s-behind m = s-both B (s-token B) (s-both B (s-there B imports_rows m.imports s-imports (s-nothing B))
      (s-both B (s-declarations m.declarations) (s-both B (s-there B (λ b. both token (block_rows b)) m.body (λ b. s-both B (s-token B) (s-plain B (p-quiet (q-block b)))) (s-nothing B))
      (s-both B (s-token B) (s-both B (s-with_rows B module_end (λ c k. refl) (λ c k. refl) (λ c k. refl) (s-token B)) (s-token B))))))

-- everything in a module after its name
module _ (m : Module) where
  rows : Rows
  rows = rows_of m

  inner : Rows
  inner = (behind_name m).rows outermost 2

  same : (n b : ℕ) → OccursIn rows n b → OccursIn inner n b
  unfolding rows inner module_rows both token joined no_rows
  same = stands_from rows inner (λ x h. h) (λ x h. h) (λ x h. h)

  names : Nest rows.blocks (OccursIn inner) 0 2 (2 + (behind_name m).width)
  unfolding rows inner module_rows both token joined no_rows
  names = ((s-behind rows.blocks (rows_in_order m).blocks m).whole outermost 2 (omega arith) (λ x h. h)).nest

  behind_two : (n b c : ℕ) → OccursIn rows n c → Encloses rows.blocks b c → b + 1 < n
  behind_two n b c h a = elim (names.behind n b c (same n c h) a) [
    | inl o ↦ (let z : b ≤ 0 = around-le rows.blocks b 0 o in let lo : 2 ≤ n = (names.context n c (same n c h)).0 in omega arith)
    | inr i ↦ i.1
  ]

  together : (n k b c d : ℕ) → OccursIn rows n c → OccursIn rows k d → b + 1 < n → n ≤ k → Encloses rows.blocks b d → Encloses rows.blocks b c
  together n k b c d h j lt le a = elim (names.behind k b d (same k d j) a) [
    | inl o ↦ around_all rows.blocks b 0 c o (names.context n c (same n c h)).2
    | inr i ↦ names.between n k b c d (same n c h) (same k d j) i.0 lt le a
  ]

pub blocks_whole : (m : Module) → AreBlocksContiguous (rows_of m)
unfolding rows
blocks_whole m = record { behind = behind_two m; between = together m }
