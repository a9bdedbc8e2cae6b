-- A declaration of a tree has a symbol, unless it is an alias.
use Rattle.std.proofs.Common.{◌≡◌, ℕ, zero, suc, ◌<◌, ◌≤◌, inl, inr, List, [], ◌∷◌, ◌++◌, take, Bool, true, false, cond, Option, Some, None, refl, sym, ap, ◌∙◌, subst, arith, eqb-true}
use Rattle.std.specs.Prelude.{◌==◌, position, Contains, not, count_by}
use Rattle.std.specs.Fmt.{decimal}
use Rattle.std.specs.Option.{option_map, option_map_or}
use Rattle.std.proofs.lemmas.Bool.{cases_Bool, eq-eqb, lt-ltb, not-false}
use Rattle.ob_tree.specs.declared.declaration.Module.{Module}
use Rattle.module_table.specs.declared.rows.Declared.{Declared}
use Rattle.module_table.specs.declared.rows.DeclGroup.{DeclGroup}
use Rattle.module_table.specs.declared.rows.DeclKind.{DeclKind}
use Rattle.module_table.specs.declared.rows.DeclKind.TheVariants as decl_kinds
use Rattle.module_table.specs.Tables.{module_name_token}
use Rattle.table_rules.specs.Declaring.{rows_of}
use Rattle.module_table.specs.Order.{AreRowsSorted}
use Rattle.module_table.specs.Parts.{Rows}
use Rattle.table_laws.proofs.Placed.{AreFields, HasConstruct, HasRecord, Holds, IsAlias, IsNamed, IsNoImport, IsOwner}
use Rattle.table_laws.proofs.PlacedModules.{module_holds}
use Rattle.module_table.proofs.Elements.{slice_contains}
use Rattle.ob_view.specs.World.{World, declared_at, decl_group_from, decl_group_of, owner_at, text}
use Rattle.scip_symbol.specs.declared.kind.DescriptorKind.{DescriptorKind}
use Rattle.scip_symbol.specs.declared.kind.DescriptorKind.TheVariants.{Term, TypeName, Method}
use Rattle.scip_symbol.specs.SymbolTexts.{DescriptorModel, Local}
use Rattle.ob_emit.specs.Symbols.{PathStep, declared_symbol, descriptor, global, step_in_record, is_local, descriptor_kind, module_path, declared_path, declared_step_by, declared_steps, path_within, symbol_at}
use Rattle.ob_emit.proofs.Numbered.{find_among, position_there}
use Rattle.ob_emit.proofs.SeenOwners.{owner_is}

unfoldable pub IsThere : {X : Type 0} → Option X → Type 0
IsThere {X} o = (x : X) × (o ≡ Some x)

-- a declaration of any kind but import has a descriptor
has_kind : (s : DeclKind) → IsNoImport s → (kind : DescriptorKind) × (descriptor_kind s ≡ Some kind)
unfolding IsNoImport
has_kind decl_kinds.Import n = absurd n
has_kind decl_kinds.Constant n = (Term, refl)
has_kind decl_kinds.Type n = (TypeName, refl)
has_kind decl_kinds.Variable n = (Term, refl)
has_kind decl_kinds.Procedure n = (Method, refl)
has_kind decl_kinds.Parameter n = (Term, refl)
has_kind decl_kinds.Field n = (Term, refl)

-- the path of a step whose owner has a path
path_of : (name : List ℕ) (steps : ℕ → Option PathStep) (n k : ℕ) (s : PathStep) → steps k ≡ Some s → (ds : List DescriptorModel) → option_map_or (path_within name steps n) s.owner (Some (module_path name)) ≡ Some ds
    → path_within name steps (suc n) k ≡ Some (ds ++ s.own ∷ [])
unfolding path_within
path_of name steps n k s e ds up = rw e (rw up refl)

module _ (w : World) (m : Module) (same : w.rows ≡ rows_of m) (order : AreRowsSorted w.rows) where
  pub holds : Holds w.rows w.rows
  holds = subst (λ (r : Rows). Holds r r) (sym same) (module_holds m)

  pub from : (k : ℕ) (by : DeclGroup) → Contains w.rows.decl_groups by → by.first ≡ k → decl_group_from w k ≡ Some by
  unfolding decl_group_from
  from k by h e = find_among (λ (x : DeclGroup). x.first) w.rows.decl_groups k by order.decl_groups h e

  declared : (x : Declared) → Contains w.rows.declared x → declared_at w x.number ≡ Some x
  unfolding declared_at
  declared x h = find_among (λ (y : Declared). y.number) w.rows.declared x.number x order.declared h refl

  of : (x : Declared) (by : DeclGroup) → Contains w.rows.declared x → Contains w.rows.decl_groups by → by.first ≡ x.declared_by → decl_group_of w x.number ≡ Some by
  unfolding decl_group_of
  of x by h j e = rw (declared x h) (from x.declared_by by j e)

  -- an identifier comes after the first token of its declaration group
  behind : (x : Declared) (by : DeclGroup) → Contains w.rows.declared x → by.first ≡ x.declared_by → by.first ≤ x.number
  behind x by h e = let c : HasConstruct w.rows x = holds.declared x h in let b = c.before in let f = c.first in omega (arith, b, f, e)

  steps_by : (x : Declared) (by : DeclGroup) → Contains w.rows.declared x → Contains w.rows.decl_groups by → by.first ≡ x.declared_by → by.block ≡ 0 → (v : Option ℕ) → by.of_record ≡ v
      → declared_steps w x.number ≡ declared_step_by w x.number by.decl_kind v
  steps_by x by h j e foreign v is = rw (of x by h j e) (rw (eq-eqb by.block 0 foreign) (ap (declared_step_by w x.number by.decl_kind) is))

  field_step : (k r o : ℕ) → owner_at w r ≡ Some o → o < k → step_in_record k (text w k) (owner_at w r) ≡ Some (record { own = descriptor Term (text w k); owner = Some o })
  field_step k r o e l = rw e (rw (lt-ltb o k l) refl)

  PathOf : ℕ → ℕ → Type 0
  PathOf n k = IsThere (path_within (text w module_name_token) (declared_steps w) n k)

  path_by : (n : ℕ) (x : Declared) (by : DeclGroup) → ((y : Declared) (its : DeclGroup) → y.number < x.number → Contains w.rows.declared y → Contains w.rows.decl_groups its → its.first ≡ y.declared_by → its.block ≡ 0 → IsNoImport its.decl_kind → PathOf n y.number)
      → Contains w.rows.declared x → Contains w.rows.decl_groups by → by.first ≡ x.declared_by → by.block ≡ 0 → IsNoImport by.decl_kind → (v : Option ℕ) → by.of_record ≡ v → PathOf (suc n) x.number
  unfolding PathOf IsThere AreFields
  path_by n x by rest h j e foreign decl_kind None is =
      let kind = has_kind by.decl_kind decl_kind in
      let s : PathStep = record { own = descriptor kind.0 (text w x.number); owner = None } in
      let steps : declared_steps w x.number ≡ Some s = steps_by x by h j e foreign None is ∙ (rw kind.1 refl) in
      (_, path_of (text w module_name_token) (declared_steps w) n x.number s steps (module_path (text w module_name_token)) refl)
  path_by n x by rest h j e foreign decl_kind (Some r) is =
      let its : HasRecord w.rows by.block r by.first = (holds.decl_groups by j r is).its in
      let o : IsOwner w.rows by.block its.row.owner = its.owner in
      let before : its.row.owner < x.number = (let a = its.before in let b = behind x by h e in omega (arith, a, b)) in
      let s : PathStep = record { own = descriptor Term (text w x.number); owner = Some its.row.owner } in
      let steps : declared_steps w x.number ≡ Some s = steps_by x by h j e foreign (Some r) is ∙ field_step x.number r its.row.owner (owner_is w order its.row r its.among its.number) before in
      let smaller : o.row.number < x.number = (let a = o.number in omega (arith, a, before)) in
      let up = rest o.row o.by smaller o.declared o.among o.first (o.block_is ∙ foreign) o.decl_kind in
      let up_there : path_within (text w module_name_token) (declared_steps w) n its.row.owner ≡ Some up.0 = ap (path_within (text w module_name_token) (declared_steps w) n) (sym o.number) ∙ up.1 in
      (_, path_of (text w module_name_token) (declared_steps w) n x.number s steps up.0 up_there)

  path_in : (n : ℕ) (x : Declared) (by : DeclGroup) → x.number < n → Contains w.rows.declared x → Contains w.rows.decl_groups by → by.first ≡ x.declared_by → by.block ≡ 0 → IsNoImport by.decl_kind → PathOf n x.number
  path_in zero x by l h j e foreign decl_kind = absurd (omega (arith, l))
  path_in (suc n) x by l h j e foreign decl_kind =
      path_by n x by (λ y its b f g i o t. path_in n y its (omega (arith, b, l)) f g i o t) h j e foreign decl_kind by.of_record refl

  foreign : (x : Declared) (by : DeclGroup) → Contains w.rows.decl_groups by → by.first ≡ x.declared_by → is_local w x ≡ false → by.block ≡ 0
  foreign x by j e f =
      let not_other : is_local w x ≡ not (by.block == 0) = rw (from x.declared_by by j e) refl in
      eqb-true by.block 0 (not-false (by.block == 0) (sym not_other ∙ f))

  symbol_by_path : (p : List ℕ) (i : ℕ) (x : Declared) (ds : List DescriptorModel) → is_local w x ≡ false → declared_path w x.number ≡ Some ds → symbol_at w p i x ≡ Some (global p ds)
  symbol_by_path p i x ds f e = ap (λ (b : Bool). cond b (Some (Local (decimal (count_by (is_local w) (take i w.rows.declared))))) (option_map (global p) (declared_path w x.number))) f ∙ ap (option_map (global p)) e

  symbol_local : (p : List ℕ) (i : ℕ) (x : Declared) → is_local w x ≡ true → symbol_at w p i x ≡ Some (Local (decimal (count_by (is_local w) (take i w.rows.declared))))
  symbol_local p i x t = ap (λ (b : Bool). cond b (Some (Local (decimal (count_by (is_local w) (take i w.rows.declared))))) (option_map (global p) (declared_path w x.number))) t

  path_is : (x : Declared) (by : DeclGroup) → Contains w.rows.declared x → Contains w.rows.decl_groups by → by.first ≡ x.declared_by → by.block ≡ 0 → IsNoImport by.decl_kind → IsThere (declared_path w x.number)
  unfolding PathOf
  path_is x by h j e block decl_kind = path_in (suc x.number) x by (omega arith) h j e block decl_kind

  symbol_in : (p : List ℕ) (i : ℕ) (x : Declared) (by : DeclGroup) → Contains w.rows.declared x → Contains w.rows.decl_groups by → by.first ≡ x.declared_by → IsNoImport by.decl_kind → IsThere (symbol_at w p i x)
  unfolding IsThere
  symbol_in p i x by h j e decl_kind = elim (cases_Bool (is_local w x)) [
    | inl t ↦ (Local (decimal (count_by (is_local w) (take i w.rows.declared))), symbol_local p i x t)
    | inr f ↦ (let path = path_is x by h j e (foreign x by j e f) decl_kind in (global p path.0, symbol_by_path p i x path.0 f path.1))
  ]

  -- a declaration of any kind but import
  pub has_symbol : (p : List ℕ) (x : Declared) (by : DeclGroup) → Contains w.rows.declared x → Contains w.rows.decl_groups by → by.first ≡ x.declared_by → IsNoImport by.decl_kind → IsThere (declared_symbol w p x.number)
  unfolding IsThere
  has_symbol p x by h j e decl_kind =
      let at = slice_contains w.rows.declared x h in
      let s = symbol_in p at.0 x by h j e decl_kind in
      let placed : position (λ (d : Declared). d.number == x.number) w.rows.declared ≡ Some at.0 =
      position_there (λ (d : Declared). d.number) w.rows.declared at.0 x.number order.declared (record { element = x; there = at.1; has = refl }) in
      (s.0, rw placed (rw at.1 s.1))

  -- a declaration that is no alias
  pub declared_has : (p : List ℕ) (x : Declared) → Contains w.rows.declared x → (IsAlias w.rows x.number → ⊥) → IsThere (declared_symbol w p x.number)
  declared_has p x h other =
      let c : HasConstruct w.rows x = holds.declared x h in
      elim c.decl_kind [
        | inl decl_kind ↦ has_symbol p x c.by h c.among c.first decl_kind
        | inr alias ↦ absurd (other alias)
      ]

  -- the procedure that a name after END repeats
  pub ended_has : (p : List ℕ) (k : ℕ) → IsNamed w.rows k → IsThere (declared_symbol w p k)
  ended_has p k n = subst (λ (j : ℕ). IsThere (declared_symbol w p j)) n.number (has_symbol p n.row n.by n.declared n.among n.first n.decl_kind)
