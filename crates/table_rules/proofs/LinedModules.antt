-- The entries of a module are sorted.
use Rattle.std.proofs.Common.{ℕ, ◌+◌, List, refl}
use Rattle.ob_tree.specs.declared.name.OneOrMore.{OneOrMore}
use Rattle.ob_tree.specs.declared.declaration.ConstDecl.{ConstDecl}
use Rattle.ob_tree.specs.declared.declaration.TypeDecl.{TypeDecl}
use Rattle.ob_tree.specs.declared.declaration.VarDecl.{VarDecl}
use Rattle.ob_tree.specs.declared.declaration.ImportItem.{ImportItem}
use Rattle.ob_tree.specs.declared.declaration.Module.{Module}
use Rattle.ob_tree.specs.declared.declaration.Declarations.{Declarations}
use Rattle.ob_tree.proofs.DeclarationInduction.{DeclarationPredicates, DeclarationSteps, WithDeclarations, WithProcedure, declarations_of, procedure_of, declarations_induction}
use Rattle.module_table.specs.declared.rows.DeclKind.TheVariants as decl_kinds
use Rattle.module_table.specs.declared.builder.Context.{Context}
use Rattle.module_table.specs.Parts.{Fragment, Rows, token, both, with_rows, in_block}
use Rattle.table_rules.specs.Expressions.{expr_rows}
use Rattle.table_rules.specs.Statements.{block_rows}
use Rattle.table_rules.specs.Types.{parameters_rows}
use Rattle.table_rules.specs.Declaring.{const_rows, type_decl_rows, variable_rows, procedure_end, declarations_rows, procedure_rows, import_inner, import_rows, imports_rows, module_rows}
use Rattle.table_rules.specs.Declaring.{part as told_part}
use Rattle.table_rules.proofs.DeclarationLayers as told
use Rattle.table_rules.specs.Declaring.{module_end, rows_of, outermost}
use Rattle.module_table.specs.Order.{AreRowsSorted}
use Rattle.table_rules.proofs.FormedModules.{forms_rise}
use Rattle.table_rules.proofs.Lined.{Lined, ascends, rises}
use Rattle.table_rules.proofs.LinedKinds.{Kind, declarers_kind, declared_kind, uses_kind, blocks_kind, imports_kind, parts_kind, records_kind, designators_kind, ends_kind, selectors_kind}
use Rattle.table_rules.proofs.LinedPieces.{Ordered, h-before, h-both, h-with_rows, l-both, l-token, l-within, n-headed, o-both, o-declaring, o-each, o-headed, o-is, o-map, o-there, o-token}
use Rattle.table_rules.proofs.LinedExpressions.{o-expr}
use Rattle.table_rules.proofs.LinedStatements.{o-block}
use Rattle.table_rules.proofs.LinedTypes.{h-identdef, o-identdef, o-parameters, n-var, o-type}
use Rattle.module_table.specs.declared.rows.DeclGroup.{DeclGroup as DeclGroupRow}
use Rattle.module_table.specs.declared.rows.Declared.{Declared as DeclaredRow}
use Rattle.module_table.specs.declared.rows.Used.{Used as UsedRow}
use Rattle.module_table.specs.declared.rows.Block.{Block as BlockRow}
use Rattle.module_table.specs.declared.rows.Import.{Import as ImportRow}
use Rattle.module_table.specs.declared.rows.TypePart.{TypePart as TypePartRow}
use Rattle.module_table.specs.declared.rows.Record.{Record as RecordRow}
use Rattle.module_table.specs.declared.rows.Designator.{Designator as DesignatorRow}
use Rattle.module_table.specs.declared.rows.Selector.{Selector as SelectorRow}
use Rattle.module_table.specs.declared.rows.End.{End as EndRow}

module _ {X : Type 0} (K : Kind X) where
  o-const : (c : ConstDecl) → Ordered K (const_rows c)
  unfolding const_rows
  o-const c = o-declaring K decl_kinds.Constant (n-headed K (h-both K (h-identdef K c.name) (o-both K (o-token K) (o-expr K c.value))) (λ d k by e. K.declares k by _ e refl))

  o-type_decl : (t : TypeDecl) → Ordered K (type_decl_rows t)
  unfolding type_decl_rows
  o-type_decl t = o-declaring K decl_kinds.Type (n-headed K (h-both K (h-identdef K t.name) (o-both K (o-token K) (o-type K t.type_expr))) (λ d k by e. K.declares k by _ e refl))

  o-variables : (v : VarDecl) → Ordered K (variable_rows v)
  unfolding variable_rows
  o-variables v = o-declaring K decl_kinds.Variable (n-var K v)

  o-import : (i : ImportItem) → Ordered K (import_rows i)
  unfolding import_rows import_inner
  o-import i = o-declaring K decl_kinds.Import (n-headed K (h-before K _ (h-with_rows K _ (l-both K (l-token K) (o-there K (λ m. both token token) i.of (λ m. o-both K (o-token K) (o-token K)))))) (λ c k by e. K.imports k by _ _ e refl refl))

  o-part : {Y : Type 0} (f : Y → Fragment) (ys : List Y) → ((y : Y) → Ordered K (f y)) → Ordered K (told_part f ys)
  o-part f ys w = o-both K (o-token K) (o-each K (λ y. both (f y) token) ys (λ y. o-both K (w y) (o-token K)))

  o-end : (own : Context → ℕ → Rows) → ((c : Context) (k : ℕ) → Lined K.number K.next k (k + 1) (K.of (own c k))) → Ordered K (with_rows own token)
  o-end own t = o-headed K (h-with_rows K own (l-token K)) t

  abbrev predicates : DeclarationPredicates
  predicates = record {
    declarations = λ t. Ordered K (declarations_rows t);
    procedure = λ t. Ordered K (procedure_rows t);
  }

  declarations_held : (y : WithDeclarations predicates) → Ordered K (told.declarations_shown (declarations_of predicates y))
  declarations_held y =
      o-both K (o-there K (λ v. told_part const_rows v.items) y.constants (λ v. o-part const_rows v.items o-const))
      (o-both K (o-there K (λ v. told_part type_decl_rows v.items) y.types (λ v. o-part type_decl_rows v.items o-type_decl))
      (o-both K (o-there K (λ v. told_part variable_rows v.items) y.variables (λ v. o-part variable_rows v.items o-variables))
      (o-map K (λ p. both (procedure_rows p) token) _ y.procedures.items (λ p. o-both K p.1 (o-token K)))))

  procedure_held : (y : WithProcedure predicates) → Ordered K (told.procedure_shown (procedure_of predicates y))
  procedure_held y = o-declaring K decl_kinds.Procedure (n-headed K (h-with_rows K _ (l-within K in_block (
      l-both K (l-token K) (o-both K (o-identdef K y.name) (o-both K (o-there K parameters_rows y.parameters (o-parameters K)) (o-both K (o-token K)
      (o-both K y.declarations.1 (o-both K (o-there K (λ b. both token (block_rows b.value)) y.body (λ b. o-both K (o-token K) (o-block K b.value)))
      (o-both K (o-there K (λ e. both token (expr_rows e.value)) y.returned (λ e. o-both K (o-token K) (o-expr K e.value)))
      (o-both K (o-token K) (o-end procedure_end (λ c k. K.end k _ refl))))))))))))
      (λ c k by e. K.procedure k by _ e refl))

  steps : DeclarationSteps predicates
  steps = record {
    declarations = λ y. o-is K (told.declarations_made _) (declarations_held y);
    procedure = λ y. o-is K (told.procedure_made _) (procedure_held y);
  }

  o-declarations : (d : Declarations) → Ordered K (declarations_rows d)
  o-declarations = declarations_induction predicates steps

  o-imports : (l : OneOrMore ImportItem) → Ordered K (imports_rows l)
  unfolding imports_rows
  o-imports l = o-both K (o-token K) (o-both K (o-import l.first) (o-both K (o-each K (λ i. both token (import_rows i)) l.rest.items (λ i. o-both K (o-token K) (o-import i))) (o-token K)))

  o-module : (m : Module) → Ordered K (module_rows m)
  unfolding module_rows
  o-module m =
      o-both K (o-token K) (o-both K (o-token K) (o-both K (o-token K)
      (o-both K (o-there K imports_rows m.imports o-imports)
      (o-both K (o-declarations m.declarations) (o-both K (o-there K (λ b. both token (block_rows b)) m.body (λ b. o-both K (o-token K) (o-block K b)))
      (o-both K (o-token K) (o-both K (o-end module_end (λ c k. K.end k _ refl)) (o-token K))))))))

  module_lined : (m : Module) → Lined K.number K.next 0 (0 + (module_rows m).width) (K.of (rows_of m))
  module_lined m = (o-module m).lined outermost 0

-- each list is sorted by token number
pub rows_in_order : (m : Module) → AreRowsSorted (rows_of m)
unfolding declarers_kind declared_kind uses_kind blocks_kind imports_kind parts_kind records_kind designators_kind ends_kind selectors_kind
rows_in_order m = record {
  decl_groups = ascends (λ (x : DeclGroupRow). x.first) 0 (0 + (module_rows m).width) (rows_of m).decl_groups (module_lined declarers_kind m);
  declared = ascends (λ (x : DeclaredRow). x.number) 0 (0 + (module_rows m).width) (rows_of m).declared (module_lined declared_kind m);
  uses = ascends (λ (x : UsedRow). x.number) 0 (0 + (module_rows m).width) (rows_of m).uses (module_lined uses_kind m);
  blocks = ascends (λ (x : BlockRow). x.first) 0 (0 + (module_rows m).width) (rows_of m).blocks (module_lined blocks_kind m);
  imports = ascends (λ (x : ImportRow). x.alias) 0 (0 + (module_rows m).width) (rows_of m).imports (module_lined imports_kind m);
  parts = ascends (λ (x : TypePartRow). x.number) 0 (0 + (module_rows m).width) (rows_of m).parts (module_lined parts_kind m);
  forms = forms_rise m;
  records = ascends (λ (x : RecordRow). x.number) 0 (0 + (module_rows m).width) (rows_of m).records (module_lined records_kind m);
  designators = ascends (λ (x : DesignatorRow). x.head) 0 (0 + (module_rows m).width) (rows_of m).designators (module_lined designators_kind m);
  selectors = rises (λ (x : SelectorRow). x.of) 0 (0 + (module_rows m).width) (rows_of m).selectors (module_lined selectors_kind m);
  ends = ascends (λ (x : EndRow). x.number) 0 (0 + (module_rows m).width) (rows_of m).ends (module_lined ends_kind m);
}
