-- The targets of a tree's references: a declaration that has a symbol, or an import item that exists.
use Rattle.std.proofs.Common.{◌≡◌, ℕ, zero, suc, ◌==◌, List, [], ◌∷◌, get_or, Bool, true, false, cond, Option, Some, None, refl, sym, ap, ◌∙◌, subst, arith, eqb-true}
use Rattle.std.specs.Prelude.{slice_get, position, find, nat_eq, Contains, ◌&&◌}
use Rattle.std.specs.Str.{bytes_eq}
use Rattle.std.specs.List.{cons_option, filter_map}
use Rattle.std.specs.Option.{is_some, option_and_then, option_eq, option_map, option_map_or}
use Rattle.std.proofs.lemmas.Bool.{and_parts}
use Rattle.std.proofs.lemmas.List.Elements.{All-contains}
use Rattle.std.proofs.lemmas.List.Quantifiers.{position-Some}
use Rattle.std.proofs.lemmas.Option.{get_or_from_slice_get}
use Rattle.type_graph.specs.declared.shape.Shape.{Shape}
use Rattle.type_graph.specs.declared.shape.Shape.TheVariants as shapes
use Rattle.type_graph.specs.Searches.{DenotesField, HasElement, HasTarget, own, pointed, inherited}
use Rattle.ob_tree.specs.declared.declaration.Module.{Module}
use Rattle.module_table.specs.declared.rows.Block.{Block as BlockRow}
use Rattle.module_table.specs.declared.rows.Used.{Used}
use Rattle.module_table.specs.declared.rows.Declared.{Declared}
use Rattle.module_table.specs.declared.rows.DeclGroup.{DeclGroup}
use Rattle.module_table.specs.declared.rows.End.{End}
use Rattle.module_table.specs.declared.rows.Import.{Import}
use Rattle.module_table.specs.declared.rows.DeclKind.{DeclKind}
use Rattle.module_table.specs.declared.rows.DeclKind.TheVariants as decl_kinds
use Rattle.module_table.specs.declared.rows.Step.{Step}
use Rattle.module_table.specs.declared.rows.TypeName.{TypeName as NameRow}
use Rattle.module_table.specs.Tables.{module_name_token}
use Rattle.table_rules.specs.Declaring.{rows_of}
use Rattle.module_table.specs.Order.{AreRowsSorted}
use Rattle.ob_interface.specs.Interfaces.{declaration as seen_as, declaration_by, declaration_of, interface_of, is_exportable, module_level_by, Declaration, ModuleInterface}
use Rattle.ob_interface.specs.Placed.{declaration_at, index_of}
use Rattle.table_laws.proofs.Placed.{AreFields, EndsOne, HasConstruct, IsAlias, IsField, IsNoImport}
use Rattle.module_table.proofs.Elements.{contains_slice, slice_contains, slice_there, some_one}
use Rattle.scopes.specs.declared.members.Member.{Member}
use Rattle.scopes.specs.Members.{decl_group_at, declared_member, members_of}
use Rattle.scopes.specs.Scope.{ResolvesTo, by_scope, as_target}
use Rattle.scopes.specs.Scoped.{AreScopes, Meaning, MeansBy}
use Rattle.ob_scan.specs.Texts.{text_at}
use Rattle.ob_targets.specs.declared.designator_type.DesignatorType.{DesignatorType}
use Rattle.ob_targets.specs.declared.designator_type.DesignatorType.TheVariants as knowns
use Rattle.ob_targets.specs.declared.syntax_position.SyntaxPosition.{SyntaxPosition}
use Rattle.ob_targets.specs.declared.syntax_position.SyntaxPosition.TheVariants as syntax_positions
use Rattle.ob_view.specs.declared.target.Reference.{Reference}
use Rattle.ob_view.specs.declared.target.Target.{Target}
use Rattle.ob_view.specs.declared.target.Target.TheVariants as targets
use Rattle.ob_targets.specs.Predeclared.{is_predeclared}
use Rattle.ob_targets.specs.Refers.{AreReferences, Refers, own_name as at_own_name, item, declaration, end, used, selected, second, nowhere}
use Rattle.ob_targets.specs.SyntaxPosition.{first, is_alias, is_declared, is_end_name, is_imported_name, is_second, is_selected, is_use, syntax_position}
use Rattle.ob_targets.specs.Steps.{Follows, IsTypeBefore, StepsTo, Levels, Selects, guard_type, there, nowhere as leads_nowhere, of_module, of_nothing, exported as by_module, field as by_field, no_field, unknown, none, one, to_field, to_elements, to_target, by_guard, at_head, behind}
use Rattle.ob_targets.specs.Targets.{declared_target, end_target, field_target, holds_value, target_type, qualident_member_target, type_if_value, use_target}
use Rattle.ob_types.specs.declared.nodes.Field.{Field}
use Rattle.ob_types.specs.declared.nodes.Field.TheVariants as fields
use Rattle.ob_types.specs.declared.nodes.Named.{Named}
use Rattle.ob_types.specs.declared.nodes.Node.{Node}
use Rattle.ob_types.specs.declared.nodes.Node.TheVariants as nodes
use Rattle.ob_types.specs.declared.nodes.Record.{Record}
use Rattle.ob_types.specs.declared.nodes.Record.TheVariants as records
use Rattle.ob_types.specs.SameDeclaration.{same}
use Rattle.ob_types.specs.Shapes.{base_of, field_of, resolve_type_name, shape, type_node_of}
use Rattle.ob_view.specs.World.{World, imported_declaration, decl_group_from, exported_index, exported_at, field_at, module_of_item, if_exported, is_of_record, item_of, meaning, decl_kind_of, imported_kind, text}
use Rattle.scip_symbol.specs.declared.kind.DescriptorKind.{DescriptorKind}
use Rattle.scip_symbol.specs.declared.kind.DescriptorKind.TheVariants.{Term, TypeName, Method}
use Rattle.ob_emit.specs.Symbols.{declared_symbol, external_symbol, imported_symbol, is_of_another_module as is_imported_target, descriptor_kind, module_symbol, denotes_something, symbol_of}
use Rattle.ob_emit.proofs.Naming.{found_there}
use Rattle.ob_emit.proofs.Numbered.{position_there}
use Rattle.ob_emit.proofs.SeenOrder.{number_there}
use Rattle.ob_emit.proofs.SeenPaths.{imported_symbol_equals_declared}
use Rattle.ob_emit.proofs.SeenSymbols.{among, first as first_token, row_at, seen_at, seen_by, RowAt, SeenBy}
use Rattle.ob_board.proofs.SomeSymbol.{IsThere, declared_has, ended_has, from, has_symbol, holds}

-- ---- lists

placed : {X : Type 0} (p : X → Bool) (xs : List X) (i : ℕ) → position p xs ≡ Some i → (x : X) × (slice_get xs i ≡ Some x) × (p x ≡ true)
placed p [] i e = absurd (cc)
placed p (x ∷ xs) i e =
    let h = position-Some p (x ∷ xs) i x e in
    let s = slice_there (x ∷ xs) i h.0 in
    let g = position-Some p (x ∷ xs) i s.0 e in
    let is : get_or (x ∷ xs) i s.0 ≡ s.0 = get_or_from_slice_get (x ∷ xs) i s.0 s.0 s.1 in
    (s.0, s.1, ap p (sym is) ∙ g.1)

some_none : {X : Type 0} (x : X) (o : Option X) → o ≡ None → o ≡ Some x → ⊥
some_none x o e f = let g : None ≡ Some x = sym e ∙ f in cc

back_step : {X Y : Type 0} (f : X → Option Y) (x : X) (xs : List X) (y : Y) (o : Option Y) → f x ≡ o → (Contains (filter_map f xs) y → (z : X) × Contains xs z × (f z ≡ Some y))
    → Contains (cons_option o (filter_map f xs)) y → (z : X) × Contains (x ∷ xs) z × (f z ≡ Some y)
back_step f x xs y None e rest c = let r = rest c in (r.0, (suc r.1.0, omega (arith, r.1.1), r.1.2), r.2)
back_step f x xs y (Some v) e rest (zero, l, is) = (x, (0, omega arith, refl), e ∙ ap Some is)
back_step f x xs y (Some v) e rest (suc k, l, is) = let r = rest (k, omega (arith, l), is) in (r.0, (suc r.1.0, omega (arith, r.1.1), r.1.2), r.2)

back : {X Y : Type 0} (f : X → Option Y) (xs : List X) (y : Y) → Contains (filter_map f xs) y → (x : X) × Contains xs x × (f x ≡ Some y)
back f [] y (k, l, is) = absurd (omega (arith, l))
back f (x ∷ xs) y c = back_step f x xs y (f x) refl (λ d. back f xs y d) c

member_number : (x : Declared) (o : Option DeclGroup) (d : Member) → declared_member x o ≡ Some d → x.number ≡ d.number
member_number x None d e = absurd (let f : None ≡ Some d = e in cc)
member_number x (Some by) d e = ap (λ (v : Member). v.number) (some_one _ d e)

means_among : (name : ℕ → List ℕ) (blocks : List BlockRow) (ds : List Member) (u : Used) (d : Member) → ResolvesTo name blocks ds u d → Contains ds d
means_among name blocks ds u d (by_scope r) = (r.seen).declared
means_among name blocks ds u d (as_target t n l) = l.declared

-- a declaration in an interface has a descriptor
kind_seen : (v : World) (x : Declared) (by : DeclGroup) (it : Declaration) (s : DeclKind) → by.decl_kind ≡ s → cond (is_exportable s) (Some (seen_as v.bytes v.tokens v.rows.parts x by)) None ≡ Some it → (kind : DescriptorKind) × (descriptor_kind it.decl_kind ≡ Some kind)
kind_seen v x by it decl_kinds.Import e f = absurd (let g : None ≡ Some it = f in cc)
kind_seen v x by it decl_kinds.Constant e f = (Term, ap descriptor_kind (ap (λ (y : Declaration). y.decl_kind) (sym (some_one _ it f)) ∙ e))
kind_seen v x by it decl_kinds.Type e f = (TypeName, ap descriptor_kind (ap (λ (y : Declaration). y.decl_kind) (sym (some_one _ it f)) ∙ e))
kind_seen v x by it decl_kinds.Variable e f = (Term, ap descriptor_kind (ap (λ (y : Declaration). y.decl_kind) (sym (some_one _ it f)) ∙ e))
kind_seen v x by it decl_kinds.Procedure e f = (Method, ap descriptor_kind (ap (λ (y : Declaration). y.decl_kind) (sym (some_one _ it f)) ∙ e))
kind_seen v x by it decl_kinds.Parameter e f = absurd (let g : None ≡ Some it = f in cc)
kind_seen v x by it decl_kinds.Field e f = (Term, ap descriptor_kind (ap (λ (y : Declaration). y.decl_kind) (sym (some_one _ it f)) ∙ e))

kind_by : (v : World) (x : Declared) (it : Declaration) (o : Option DeclGroup) → declaration_by v.bytes v.tokens v.rows.parts x o ≡ Some it → (kind : DescriptorKind) × (descriptor_kind it.decl_kind ≡ Some kind)
kind_by v x it None f = absurd (let g : None ≡ Some it = f in cc)
kind_by v x it (Some by) f = kind_seen v x by it by.decl_kind refl f

kind_in : (v : World) (it : Declaration) → Contains (interface_of v.bytes v.tokens v.rows).declarations it → (kind : DescriptorKind) × (descriptor_kind it.decl_kind ≡ Some kind)
kind_in v it h =
    let row = back (declaration_of v.bytes v.tokens v.rows) v.rows.declared it h in
    kind_by v row.0 it (module_level_by v.rows.decl_groups row.0.declared_by) row.2

no_import : (s : DeclKind) (kind : DescriptorKind) → descriptor_kind s ≡ Some kind → IsNoImport s
unfolding IsNoImport
no_import decl_kinds.Import kind e = absurd (let none : None ≡ Some kind = e in cc)
no_import decl_kinds.Constant kind e = tt
no_import decl_kinds.Type kind e = tt
no_import decl_kinds.Variable kind e = tt
no_import decl_kinds.Procedure kind e = tt
no_import decl_kinds.Parameter kind e = tt
no_import decl_kinds.Field kind e = tt

same_record : (o : Option ℕ) (r : ℕ) → option_eq nat_eq o (Some r) ≡ true → o ≡ Some r
same_record None r e = absurd (let f : false ≡ true = e in cc)
same_record (Some k) r e = ap Some (eqb-true k r e)

module _ (w : World) (m : Module) (is_tree : w.rows ≡ rows_of m) (order : AreRowsSorted w.rows) (scopes : AreScopes w.bytes w.tokens w.rows w.scopes) (p : List ℕ) where
  IsItem : ℕ → Type 0
  IsItem at = IsThere (slice_get w.rows.imports at)

  -- the possible targets
  pub Valid : Target → Type 0
  Valid (targets.Declared k) = IsThere (declared_symbol w p k)
  Valid (targets.Imported i d) = IsThere (imported_declaration w i d)
  Valid (targets.External at n) = IsThere (slice_get w.rows.imports at)
  Valid targets.Own = Unit {0}
  Valid (targets.«Module» at) = IsThere (slice_get w.rows.imports at)
  Valid targets.Predeclared = Unit {0}
  Valid targets.Unresolved = Unit {0}

  IsKnown : DesignatorType → Type 0
  IsKnown knowns.Nothing = Unit {0}
  IsKnown (knowns.«Module» at) = IsThere (slice_get w.rows.imports at)
  IsKnown (knowns.Typed n) = Unit {0}

  -- ---- names

  no_alias : (d : ℕ) → item_of w d ≡ None → IsAlias w.rows d → ⊥
  unfolding item_of
  no_alias d e a =
      let at = slice_contains w.rows.imports a.item a.among in
      some_none at.0 _ e (position_there (λ (i : Import). i.alias) w.rows.imports at.0 d order.imports (record { element = a.item; there = at.1; has = a.alias }))

  item_there : (k at : ℕ) → item_of w k ≡ Some at → IsItem at
  unfolding item_of IsItem IsThere
  item_there k at e = let h = placed (λ (i : Import). i.alias == k) w.rows.imports at e in (h.0, h.1)

  meant : (k d : ℕ) (o : Option Meaning) → find (λ (x : Meaning). x.used == k) w.scopes.meanings ≡ o → option_map (λ (x : Meaning). x.declared) o ≡ Some d → (x : Declared) × Contains w.rows.declared x × (x.number ≡ d)
  meant k d None f e = absurd (let g : None ≡ Some d = e in cc)
  meant k d (Some x) f e =
      let h = found_there (λ (y : Meaning). y.used == k) w.scopes.meanings x f in
      let among : Contains w.scopes.meanings x = contains_slice w.scopes.meanings h.0 x h.1 in
      let by : MeansBy (text_at w.bytes w.tokens) w.rows x.used x.declared = (scopes.meanings x.used x.declared).0 among in
      let member : Contains (members_of w.rows) by.named_declaration = means_among _ _ _ _ by.named_declaration by.means in
      let row = back (λ (y : Declared). declared_member y (decl_group_at w.rows.decl_groups y.declared_by)) w.rows.declared by.named_declaration member in
      (row.0, row.1, member_number row.0 (decl_group_at w.rows.decl_groups row.0.declared_by) by.named_declaration row.2 ∙ by.of_declared ∙ some_one x.declared d e)

  meaning_there : (k d : ℕ) → meaning w k ≡ Some d → (x : Declared) × Contains w.rows.declared x × (x.number ≡ d)
  unfolding meaning
  meaning_there k d e = meant k d (find (λ (x : Meaning). x.used == k) w.scopes.meanings) refl e

  declared_valid : (x : Declared) (d : ℕ) → Contains w.rows.declared x → x.number ≡ d → (IsAlias w.rows d → ⊥) → IsThere (declared_symbol w p d)
  declared_valid x d h e other = subst (λ (j : ℕ). IsThere (declared_symbol w p j)) e (declared_has w m is_tree order p x h (λ a. other (subst (IsAlias w.rows) e a)))

  declared_by : (d : ℕ) (x : Declared) → Contains w.rows.declared x → x.number ≡ d → (o : Option ℕ) → item_of w d ≡ o → Valid (elim o [ None ↦ targets.Declared d | Some at ↦ targets.«Module» at ])
  unfolding Valid IsItem
  declared_by d x h e None f = declared_valid x d h e (no_alias d f)
  declared_by d x h e (Some at) f = item_there d at f

  predeclared : (b : Bool) → Valid (cond b targets.Predeclared targets.Unresolved)
  unfolding Valid
  predeclared true = tt
  predeclared false = tt

  used_by : (k : ℕ) (o : Option ℕ) → meaning w k ≡ o → Valid (elim o [ Some d ↦ declared_target w d | None ↦ cond (is_predeclared (text w k)) targets.Predeclared targets.Unresolved ])
  used_by k None e = predeclared (is_predeclared (text w k))
  used_by k (Some d) e = let x = meaning_there k d e in declared_by d x.0 x.1 x.2 (item_of w d) refl

  used_valid : (k : ℕ) → Valid (use_target w k)
  used_valid k = used_by k (meaning w k) refl

  ---- syntactic positions of identifiers

  -- the entry of an identifier at its syntactic position
  Stands : ℕ → SyntaxPosition → Type 0
  Stands k syntax_positions.OwnName = Unit {0}
  Stands k (syntax_positions.Item at) = IsItem at
  Stands k (syntax_positions.Declaration at) = IsThere (declared_symbol w p k)
  Stands k (syntax_positions.End at) = Unit {0}
  Stands k (syntax_positions.Use at) = Unit {0}
  Stands k (syntax_positions.Selected at) = Unit {0}
  Stands k (syntax_positions.QualidentMember at) = Unit {0}
  Stands k syntax_positions.Nowhere = Unit {0}

  stands_by : (k : ℕ) (at : ℕ → SyntaxPosition) (otherwise : SyntaxPosition) (o : Option ℕ) → ((i : ℕ) → o ≡ Some i → Stands k (at i)) → (o ≡ None → Stands k otherwise) → Stands k (option_map_or at o otherwise)
  stands_by k at otherwise None f g = g refl
  stands_by k at otherwise (Some i) f g = f i refl

  stands_first : {X : Type 0} (k : ℕ) (test : X → Bool) (at : ℕ → SyntaxPosition) (rows : List X) (otherwise : SyntaxPosition) → ((i : ℕ) → position test rows ≡ Some i → Stands k (at i)) → (position test rows ≡ None → Stands k otherwise)
      → Stands k (first test at rows otherwise)
  stands_first k test at rows otherwise f g = stands_by k at otherwise (position test rows) f g

  at_item : (k : ℕ) (test : Import → Bool) (i : ℕ) → position test w.rows.imports ≡ Some i → Stands k (syntax_positions.Item i)
  unfolding Stands IsItem IsThere
  at_item k test i e = let h = placed test w.rows.imports i e in (h.0, h.1)

  no_alias_at : (k : ℕ) → position (is_alias k) w.rows.imports ≡ None → IsAlias w.rows k → ⊥
  unfolding item_of
  no_alias_at k e = no_alias k e

  at_declaration : (k i : ℕ) → position (is_alias k) w.rows.imports ≡ None → position (is_declared k) w.rows.declared ≡ Some i → Stands k (syntax_positions.Declaration i)
  unfolding Stands
  at_declaration k i unaliased e =
      let h = placed (is_declared k) w.rows.declared i e in
      declared_valid h.0 k (contains_slice w.rows.declared i h.0 h.1) (eqb-true h.0.number k h.2) (no_alias_at k unaliased)

  at_rest : (k : ℕ) (b : Bool) (otherwise : SyntaxPosition) → Stands k otherwise → Stands k (cond b syntax_positions.OwnName otherwise)
  unfolding Stands
  at_rest k true otherwise s = tt
  at_rest k false otherwise s = s

  at_end : (k : ℕ) → Stands k (first (is_end_name k) syntax_positions.End w.rows.ends (first (is_use k) syntax_positions.Use w.rows.uses (first (is_selected k) syntax_positions.Selected w.rows.selectors (first (is_second k) syntax_positions.QualidentMember w.rows.uses syntax_positions.Nowhere))))
  unfolding Stands
  at_end k =
      stands_first k (is_end_name k) syntax_positions.End w.rows.ends _ (λ i e. tt) (λ e.
      stands_first k (is_use k) syntax_positions.Use w.rows.uses _ (λ i e. tt) (λ e.
      stands_first k (is_selected k) syntax_positions.Selected w.rows.selectors _ (λ i e. tt) (λ e.
      stands_first k (is_second k) syntax_positions.QualidentMember w.rows.uses syntax_positions.Nowhere (λ i e. tt) (λ e. tt))))

  stands : (k : ℕ) → Stands k (syntax_position w.rows k)
  stands k = at_rest k (k == module_name_token) _ (
      stands_first k (is_alias k) syntax_positions.Item w.rows.imports _ (λ i e. at_item k (is_alias k) i e) (λ unaliased.
      stands_first k (is_imported_name k) syntax_positions.Item w.rows.imports _ (λ i e. at_item k (is_imported_name k) i e) (λ e.
      stands_first k (is_declared k) syntax_positions.Declaration w.rows.declared _ (λ i e. at_declaration k i unaliased e) (λ e. at_end k))))

  -- ---- names after a dot

  exported_in : (mi : ModuleInterface) (of_record : Option ℕ) (name : List ℕ) (d : ℕ) (o : Option ℕ) → index_of mi of_record name ≡ o → option_and_then (λ (j : ℕ). option_and_then (if_exported j) (declaration_at mi j)) o ≡ Some d
      → (it : Declaration) × (declaration_at mi d ≡ Some it)
  exported_in mi of_record name d None e f = absurd (let g : None ≡ Some d = f in cc)
  exported_in mi of_record name d (Some j) e f = seen_place (declaration_at mi j) refl f
    where
      marked : (it : Declaration) (b : Bool) → cond b (Some j) None ≡ Some d → j ≡ d
      marked it true g = some_one j d g
      marked it false g = absurd (let h : None ≡ Some d = g in cc)

      seen_place : (o : Option Declaration) → declaration_at mi j ≡ o → option_and_then (if_exported j) o ≡ Some d → (it : Declaration) × (declaration_at mi d ≡ Some it)
      seen_place None g h = absurd (let i : None ≡ Some d = h in cc)
      seen_place (Some it) g h = (it, ap (declaration_at mi) (sym (marked it it.exported h)) ∙ g)

  exported_at_there : (mi : ModuleInterface) (of_record : Option ℕ) (name : List ℕ) (d : ℕ) → exported_at mi of_record name ≡ Some d → (it : Declaration) × (declaration_at mi d ≡ Some it)
  unfolding exported_at
  exported_at_there mi of_record name d e = exported_in mi of_record name d (index_of mi of_record name) refl e

  in_module : (i d : ℕ) (of_record : Option ℕ) (name : List ℕ) (o : Option ModuleInterface) → slice_get w.reached i ≡ o → option_and_then (λ (mi : ModuleInterface). exported_at mi of_record name) o ≡ Some d → IsThere (imported_declaration w i d)
  unfolding imported_declaration IsThere
  in_module i d of_record name None at e = absurd (let g : None ≡ Some d = e in cc)
  in_module i d of_record name (Some mi) at e = let h = exported_at_there mi of_record name d e in (h.0, rw at h.1)

  exported_there : (i : ℕ) (name : List ℕ) (d : ℕ) → exported_index w i name ≡ Some d → IsThere (imported_declaration w i d)
  unfolding exported_index
  exported_there i name d e = in_module i d None name (slice_get w.reached i) refl e

  exported_by : (at k : ℕ) (i : ℕ) (o : Option ℕ) → exported_index w i (text w k) ≡ o → Valid (elim o [ None ↦ targets.Unresolved | Some d ↦ targets.Imported i d ])
  unfolding Valid
  exported_by at k i None e = tt
  exported_by at k i (Some d) e = exported_there i (text w k) d e

  exported_valid : (at k : ℕ) (o : Option ℕ) → IsItem at → module_of_item w at ≡ o → Valid (elim o [ None ↦ targets.External at k | Some i ↦ elim (exported_index w i (text w k)) [ None ↦ targets.Unresolved | Some d ↦ targets.Imported i d ] ])
  unfolding Valid IsItem
  exported_valid at k None i e = i
  exported_valid at k (Some j) i e = exported_by at k j (exported_index w j (text w k)) refl

  field_by : (r : ℕ) (k : ℕ) (d : Declared) (name : List ℕ) → find (λ (x : Declared). is_of_record w r x && bytes_eq (text w x.number) name) w.rows.declared ≡ Some d → d.number ≡ k → IsThere (declared_symbol w p k)
  unfolding AreFields
  field_by r k d name e is =
      let h = found_there (λ (x : Declared). is_of_record w r x && bytes_eq (text w x.number) name) w.rows.declared d e in
      let among : Contains w.rows.declared d = contains_slice w.rows.declared h.0 d h.1 in
      let c : HasConstruct w.rows d = (holds w m is_tree order).declared d among in
      let of : decl_group_from w d.declared_by ≡ Some c.by = from w m is_tree order d.declared_by c.by c.among c.first in
      let in_it : option_eq nat_eq c.by.of_record (Some r) ≡ true = sym (rw of refl) ∙ (and_parts (is_of_record w r d) (bytes_eq (text w d.number) name) h.2).0 in
      let f : IsField w.rows c.by r = (holds w m is_tree order).decl_groups c.by c.among r (same_record c.by.of_record r in_it) in
      subst (λ (j : ℕ). IsThere (declared_symbol w p j)) is (has_symbol w m is_tree order p d c.by among c.among c.first f.decl_kind)

  own_number : (r : ℕ) (name : List ℕ) (k : ℕ) (o : Option Declared) → find (λ (x : Declared). is_of_record w r x && bytes_eq (text w x.number) name) w.rows.declared ≡ o → option_map (λ (d : Declared). d.number) o ≡ Some k → IsThere (declared_symbol w p k)
  own_number r name k None e f = absurd (let g : None ≡ Some k = f in cc)
  own_number r name k (Some d) e f = field_by r k d name e (some_one d.number k f)

  own_there : (r : ℕ) (name : List ℕ) (k : ℕ) → field_at w r name ≡ Some k → IsThere (declared_symbol w p k)
  unfolding field_at
  own_there r name k e = own_number r name k (find (λ (x : Declared). is_of_record w r x && bytes_eq (text w x.number) name) w.rows.declared) refl e

  own_field : (r : ℕ) (name : List ℕ) (f : Field) (o : Option ℕ) → field_at w r name ≡ o → option_map fields.Own o ≡ Some f → Valid (field_target f)
  unfolding Valid
  own_field r name f None e g = absurd (let h : None ≡ Some f = g in cc)
  own_field r name f (Some k) e g = subst (λ (x : Field). Valid (field_target x)) (some_one (fields.Own k) f g) (own_there r name k e)

  own_is : (r : ℕ) (name : List ℕ) (f : Field) → field_of w (records.Own r) name ≡ Some f → option_map fields.Own (field_at w r name) ≡ Some f
  unfolding field_of
  own_is r name f e = e

  other_field : (i r : ℕ) (name : List ℕ) (f : Field) (o : Option ℕ) → option_and_then (λ (mi : ModuleInterface). exported_at mi (Some r) name) (slice_get w.reached i) ≡ o → option_map (fields.Other i) o ≡ Some f → Valid (field_target f)
  unfolding Valid
  other_field i r name f None e g = absurd (let h : None ≡ Some f = g in cc)
  other_field i r name f (Some d) e g = subst (λ (x : Field). Valid (field_target x)) (some_one (fields.Other i d) f g) (in_module i d (Some r) name (slice_get w.reached i) refl e)

  other_is : (i r : ℕ) (name : List ℕ) (f : Field) → field_of w (records.Other i r) name ≡ Some f → option_map (fields.Other i) (option_and_then (λ (mi : ModuleInterface). exported_at mi (Some r) name) (slice_get w.reached i)) ≡ Some f
  unfolding field_of
  other_is i r name f e = e

  field_valid : (r : Record) (name : List ℕ) (f : Field) → field_of w r name ≡ Some f → Valid (field_target f)
  field_valid (records.Own r) name f e = own_field r name f (field_at w r name) refl (own_is r name f e)
  field_valid (records.Other i r) name f e = other_field i r name f _ refl (other_is i r name f e)

  finds_valid : (name : List ℕ) (met : List Named) (n : Node) (f : Field) → DenotesField same (shape w) (λ r. field_of w r name) (base_of w) met n f → Valid (field_target f)
  finds_valid name met n f (own {r = r} o s e) = field_valid r name f e
  finds_valid name met n f (pointed {after = after} {next = next} o s rest) = finds_valid name after next f rest
  finds_valid name met n f (inherited {after = after} {next = next} o s e b rest) = finds_valid name after next f rest

  selects_valid : (o : DesignatorType) (k : ℕ) (t : Target) → IsKnown o → Selects w o k t → Valid t
  unfolding IsKnown Valid IsItem
  selects_valid o k t i (by_module {at = at}) = exported_valid at k (module_of_item w at) i refl
  selects_valid o k t i (by_field {n = n} {f = f} s) = finds_valid (text w k) [] n f s
  selects_valid o k t i (no_field s) = tt
  selects_valid o k t i unknown = tt

  ---- designator types

  by_sort : (b : Bool) (n : Node) → IsKnown (cond b (knowns.Typed n) knowns.Nothing)
  unfolding IsKnown
  by_sort true n = tt
  by_sort false n = tt

  typed_known : (s : Option DeclKind) (type_expr : Option Node) → IsKnown (type_if_value s type_expr)
  unfolding IsKnown
  typed_known None type_expr = tt
  typed_known (Some s) None = tt
  typed_known (Some s) (Some n) = by_sort (holds_value s) n

  known_valid : (t : Target) → Valid t → IsKnown (target_type w t)
  unfolding IsKnown Valid
  known_valid (targets.Declared k) v = typed_known (decl_kind_of w k) (type_node_of w k)
  known_valid (targets.Imported i d) v = typed_known (imported_kind w i d) _
  known_valid (targets.External at n) v = tt
  known_valid targets.Own v = tt
  known_valid (targets.«Module» at) v = v
  known_valid targets.Predeclared v = tt
  known_valid targets.Unresolved v = tt

  follows_known : (Over : Node → Node → Type 0) (o next : DesignatorType) → Follows Over o next → IsKnown next
  unfolding IsKnown
  follows_known Over o next (there l) = tt
  follows_known Over o next (leads_nowhere n) = tt
  follows_known Over o next of_module = tt
  follows_known Over o next of_nothing = tt

  levels_known : (c : ℕ) (o next : DesignatorType) → IsKnown o → Levels w c o next → IsKnown next
  levels_known c o next i none = i
  levels_known c o next i (one {next = before} l f) = follows_known (HasElement same (shape w)) before next f

  guard_shape : (t : NameRow) (s : Shape Node Named Record) → IsKnown (elim s [
    | shapes.Array n ↦ knowns.Nothing
    | shapes.Pointer n ↦ knowns.Nothing
    | shapes.Record r ↦ knowns.Nothing
    | shapes.Procedure ↦ knowns.Nothing
    | shapes.Named d n ↦ knowns.Typed (nodes.Name t.head t.member)
    | shapes.Unknown ↦ knowns.Nothing
  ])
  unfolding IsKnown
  guard_shape t (shapes.Array n) = tt
  guard_shape t (shapes.Pointer n) = tt
  guard_shape t (shapes.Record r) = tt
  guard_shape t shapes.Procedure = tt
  guard_shape t (shapes.Named d n) = tt
  guard_shape t shapes.Unknown = tt

  guard_known : (t : Option NameRow) → IsKnown (guard_type w t)
  unfolding IsKnown
  guard_known None = tt
  guard_known (Some t) = guard_shape t (resolve_type_name w t.head t.member)

  leads_known : (o : DesignatorType) (s : Step) (next : DesignatorType) → IsKnown o → StepsTo w o s next → IsKnown next
  leads_known o s next i (to_field {k = k} {t = t} e) = known_valid t (selects_valid o k t i e)
  leads_known o s next i (to_elements {c = c} l) = levels_known c o next i l
  leads_known o s next i (to_target f) = follows_known (HasTarget same (shape w)) o next f
  leads_known o s next i (by_guard {t = t}) = guard_known t

  knows_known : (i : ℕ) (o : DesignatorType) → IsTypeBefore w i o → IsKnown o
  knows_known i o (at_head {s = s} at b) = known_valid (use_target w s.of) (used_valid s.of)
  knows_known i next (behind {i = j} {s = s} {o = o} at more b knows leads) = leads_known o s.step next (knows_known j o knows) leads

  -- ---- references

  second_valid : (k : ℕ) (t : Target) → Valid t → Valid (qualident_member_target w k t)
  unfolding Valid IsItem
  second_valid k (targets.Declared d) v = tt
  second_valid k (targets.Imported i d) v = tt
  second_valid k (targets.External at n) v = tt
  second_valid k targets.Own v = tt
  second_valid k (targets.«Module» at) v = exported_valid at k (module_of_item w at) v refl
  second_valid k targets.Predeclared v = tt
  second_valid k targets.Unresolved v = tt

  end_valid : (at : ℕ) (e : End) (o : Option ℕ) → slice_get w.rows.ends at ≡ Some e → e.of ≡ o → Valid (end_target o)
  unfolding Valid EndsOne
  end_valid at e None placed_there is = tt
  end_valid at e (Some n) placed_there is = ended_has w m is_tree order p n ((holds w m is_tree order).ends e (contains_slice w.rows.ends at e placed_there) n is)

  pub valid : (k : ℕ) (t : Target) (r : ℕ) → Refers w k t r → Valid t
  unfolding Valid Stands IsItem
  valid k t r (at_own_name is) = tt
  valid k t r (item is) = subst (Stands k) is (stands k)
  valid k t r (declaration is) = subst (Stands k) is (stands k)
  valid k t r (end {at = at} {e = e} is placed_there) = end_valid at e e.of placed_there refl
  valid k t r (used is) = used_valid k
  valid k t r (selected {at = at} {o = o} is knows selects) = selects_valid o k t (knows_known at o knows) selects
  valid k t r (second {u = u} is placed_there) = second_valid k (use_target w u.number) (used_valid u.number)
  valid k t r (nowhere is) = tt

  -- a target that is no declaration of another module has a symbol
  there_is : {X : Type 0} (o : Option X) → IsThere o → is_some o ≡ true
  unfolding IsThere
  there_is o h = rw h.1 refl

  module_has : (at : ℕ) → IsItem at → is_some (module_symbol w p at) ≡ true
  unfolding IsItem IsThere
  module_has at i = rw i.1 refl

  external_has : (at n : ℕ) → IsItem at → is_some (external_symbol w at n) ≡ true
  unfolding IsItem IsThere
  external_has at n i = rw i.1 refl

  has_its_symbol : (t : Target) → Valid t → is_imported_target t ≡ false → is_some (symbol_of w p t) ≡ denotes_something t
  unfolding Valid IsItem
  has_its_symbol (targets.Declared k) v e = there_is (declared_symbol w p k) v
  has_its_symbol (targets.Imported i d) v e = absurd (let f : true ≡ false = e in cc)
  has_its_symbol (targets.External at n) v e = external_has at n v
  has_its_symbol targets.Own v e = refl
  has_its_symbol (targets.«Module» at) v e = module_has at v
  has_its_symbol targets.Predeclared v e = refl
  has_its_symbol targets.Unresolved v e = refl

  pub resolved_identifiers_have_symbols : (refs : List Reference) (r : Reference) → AreReferences w refs → Contains refs r → is_imported_target r.target ≡ false → is_some (symbol_of w p r.target) ≡ denotes_something r.target
  resolved_identifiers_have_symbols refs r are h e = has_its_symbol r.target (valid r.number r.target r.role (All-contains (λ (x : Reference). Refers w x.number x.target x.role) refs r are.each h)) e

  -- a declaration of a reached module is in its interface
  is_there : (i d : ℕ) (t : Target) → t ≡ targets.Imported i d → Valid t → IsThere (imported_declaration w i d)
  unfolding Valid
  is_there i d t e v = subst Valid e v

  -- a declaration at an index of the interface has the symbol that it has in its module
  seen_there : (v : World) (n : Module) (i d : ℕ) (it : Declaration) → v.rows ≡ rows_of n → AreRowsSorted v.rows → slice_get w.reached i ≡ Some (interface_of v.bytes v.tokens v.rows) → imported_declaration w i d ≡ Some it
      → is_some (imported_symbol w p i d) ≡ true
  seen_there v n i d it tree ascending at there_at =
      let placed_at = seen_at w (interface_of v.bytes v.tokens v.rows) i d it at there_at in
      let kind = kind_in v it (contains_slice (interface_of v.bytes v.tokens v.rows).declarations d it placed_at) in
      let k = number_there (declaration_of v.bytes v.tokens v.rows) (λ (x : Declared). x.number) v.rows.declared d it placed_at in
      let r : RowAt (declaration_of v.bytes v.tokens v.rows) (λ (x : Declared). x.number) v.rows.declared it k.0 = row_at (declaration_of v.bytes v.tokens v.rows) (λ (x : Declared). x.number) v.rows.declared it k.0 d placed_at k.1 in
      let s : SeenBy v r.row it = seen_by v r.row it (module_level_by v.rows.decl_groups r.row.declared_by) refl r.tells in
      let decl_kind : IsNoImport s.by.decl_kind = no_import s.by.decl_kind kind.0 (ap (λ (x : Declaration). descriptor_kind x.decl_kind) s.is ∙ kind.1) in
      let has : IsThere (declared_symbol v p r.row.number) =
      has_symbol v n tree ascending p r.row s.by (contains_slice v.rows.declared r.place r.row r.at) (among v ascending r.place k.0 r.row r.at r.has s.by s.foreign) (first_token v ascending r.place k.0 r.row r.at r.has s.by s.foreign) decl_kind in
      ap is_some (imported_symbol_equals_declared w v n p i d k.0 it tree ascending at k.1 there_at ∙ ap (declared_symbol v p) (sym r.has)) ∙ there_is (declared_symbol v p r.row.number) has

  -- so it has a symbol
  pub seen_symbol : (v : World) (n : Module) (refs : List Reference) (r : Reference) (i d : ℕ) → v.rows ≡ rows_of n → AreRowsSorted v.rows → AreReferences w refs → Contains refs r → r.target ≡ targets.Imported i d
      → slice_get w.reached i ≡ Some (interface_of v.bytes v.tokens v.rows) → (it : Declaration) × (imported_declaration w i d ≡ Some it) × (is_some (symbol_of w p r.target) ≡ true)
  unfolding IsThere
  seen_symbol v n refs r i d tree ascending are h e at =
      let it = is_there i d r.target e (valid r.number r.target r.role (All-contains (λ (x : Reference). Refers w x.number x.target x.role) refs r are.each h)) in
      (it.0, it.1, ap (λ (t : Target). is_some (symbol_of w p t)) e ∙ seen_there v n i d it.0 tree ascending at it.1)
