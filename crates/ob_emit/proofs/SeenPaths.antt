-- A declaration in a module's interface has the symbol that it has in the module.
use Rattle.std.proofs.Common.{◌≡◌, ℕ, zero, suc, ◌<◌, ◌≤◌, inl, inr, List, [], ◌∷◌, ◌++◌, Option, Some, None, refl, sym, ap, ◌∙◌, arith}
use Rattle.std.specs.Prelude.{slice_get}
use Rattle.std.specs.Option.{option_and_then, option_map, option_map_or}
use Rattle.std.proofs.lemmas.Bool.{cases_lt, lt-ltb}
use Rattle.ob_tree.specs.declared.declaration.Module.{Module}
use Rattle.module_table.specs.declared.rows.Declared.{Declared}
use Rattle.module_table.specs.declared.rows.DeclKind.{DeclKind}
use Rattle.module_table.specs.Tables.{module_name_token}
use Rattle.table_rules.specs.Declaring.{rows_of}
use Rattle.module_table.specs.Order.{AreRowsSorted}
use Rattle.ob_interface.specs.Interfaces.{declaration_of, interface_of, module_level_by, Declaration, ModuleInterface}
use Rattle.ob_interface.specs.Placed.{owner_index}
use Rattle.module_table.proofs.Elements.{contains_slice, some_one}
use Rattle.ob_view.specs.World.{World, imported_declaration, owner_at, text}
use Rattle.scip_symbol.specs.declared.kind.DescriptorKind.{DescriptorKind}
use Rattle.scip_symbol.specs.declared.kind.DescriptorKind.TheVariants.{Term}
use Rattle.scip_symbol.specs.SymbolTexts.{DescriptorModel}
use Rattle.ob_emit.specs.DistinctSymbols.{exported_tokens}
use Rattle.ob_emit.specs.Symbols.{PathStep, declared_symbol, descriptor, global, imported_symbol, step_in_block, step_in_record, descriptor_kind, module_path, declared_path, declared_steps, interface_path, path_within, step_by, interface_steps}
use Rattle.ob_emit.proofs.SeenOrder.{ascend}
use Rattle.ob_emit.proofs.SeenOwners.{behind, owner_seen, OwnerSeen}
use Rattle.ob_emit.proofs.SeenSymbols.{among, block, first, here, own, row_at, seen_at, seen_by, RowAt, SeenBy}

-- ---- paths by their steps

flat_by : (m name : List ℕ) (rest : ℕ → Option (List DescriptorModel)) (o : Option DescriptorKind) →
    option_and_then (λ (s : PathStep). option_map (λ (ds : List DescriptorModel). ds ++ s.own ∷ []) (option_map_or rest s.owner (Some (module_path m))))
    (option_map (λ (kind : DescriptorKind). record { own = descriptor kind name; owner = None }) o)
    ≡ option_map (λ (kind : DescriptorKind). module_path m ++ descriptor kind name ∷ []) o
flat_by m name rest None = refl
flat_by m name rest (Some kind) = refl

-- of a declaration in the block
flat : (m : List ℕ) (steps : ℕ → Option PathStep) (n k : ℕ) (decl_kind : DeclKind) (name : List ℕ) → steps k ≡ step_in_block decl_kind name
    → path_within m steps (suc n) k ≡ option_map (λ (kind : DescriptorKind). module_path m ++ descriptor kind name ∷ []) (descriptor_kind decl_kind)
unfolding path_within
flat m steps n k decl_kind name e = rw e (flat_by m name (path_within m steps n) (descriptor_kind decl_kind))

-- of a field
owned : (m : List ℕ) (steps : ℕ → Option PathStep) (n k o : ℕ) (own : DescriptorModel) → steps k ≡ Some (record { own = own; owner = Some o })
    → path_within m steps (suc n) k ≡ option_map (λ (ds : List DescriptorModel). ds ++ own ∷ []) (path_within m steps n o)
unfolding path_within
owned m steps n k o own e = rw e refl

behind_owner : (k : ℕ) (name : List ℕ) (x : Option ℕ) (o : ℕ) → x ≡ Some o → o < k → step_in_record k name x ≡ Some (record { own = descriptor Term name; owner = Some o })
behind_owner k name x o e l = rw e (rw (lt-ltb o k l) refl)

named : (v : World) (r : Declared) (it : Declaration) → SeenBy v r it → it.name ≡ text v r.number
unfolding text
named v r it s = ap (λ (x : Declaration). x.name) (sym s.is)

own_named : (v : World) → (interface_of v.bytes v.tokens v.rows).name ≡ text v module_name_token
unfolding text
own_named v = refl

---- paths in the interface and in the module

module _ (v : World) (m : Module) (same : v.rows ≡ rows_of m) (order : AreRowsSorted v.rows) where
  abbrev there : ModuleInterface
  there = interface_of v.bytes v.tokens v.rows

  abbrev path_seen : ℕ → ℕ → Option (List DescriptorModel)
  path_seen n d = path_within (text v module_name_token) (interface_steps there) n d

  abbrev path_here : ℕ → ℕ → Option (List DescriptorModel)
  path_here n k = path_within (text v module_name_token) (declared_steps v) n k

  abbrev Row : Declaration → ℕ → Type 0
  Row it k = RowAt (declaration_of v.bytes v.tokens v.rows) (λ (x : Declared). x.number) v.rows.declared it k

  -- an owner precedes its fields in the interface
  before : (p d o k : ℕ) → slice_get (exported_tokens v) p ≡ Some o → slice_get (exported_tokens v) d ≡ Some k → o < k → p < d
  before p d o k e f l = elim (cases_lt p d) [
    | inl is ↦ is
    | inr not ↦ (elim (cases_lt d p) [
      | inl behind_it ↦ absurd (let up : k < o = ascend (declaration_of v.bytes v.tokens v.rows) (λ (x : Declared). x.number) v.rows.declared order.declared d p k o behind_it f e in omega (arith, up, l))
      | inr not_behind ↦ absurd (let at : p ≡ d = omega arith in let one : o ≡ k = some_one o k (sym e ∙ ap (slice_get (exported_tokens v)) at ∙ f) in omega (arith, one, l))
    ])
  ]

  by_record : (n j d k : ℕ) (it : Declaration) → ((p o : ℕ) (y : Declaration) → p < n → o < j → slice_get (exported_tokens v) p ≡ Some o → slice_get there.declarations p ≡ Some y → path_seen n p ≡ path_here j o)
      → d < suc n → k < suc j → slice_get (exported_tokens v) d ≡ Some k → slice_get there.declarations d ≡ Some it → (r : Row it k) (s : SeenBy v r.row it) (x : Option ℕ) → s.by.of_record ≡ x
      → path_seen (suc n) d ≡ path_here (suc j) r.row.number
  by_record n j d k it rest l b number at r s None is =
      let of : it.of_record ≡ None = ap (λ (y : Declaration). y.of_record) (sym s.is) ∙ is in
      let theirs : interface_steps there d ≡ step_in_block it.decl_kind it.name = rw at (ap (step_by there d it) of) in
      let ours : declared_steps v r.row.number ≡ step_in_block s.by.decl_kind (text v r.row.number) = own v order r.place k r.row r.at r.has s.by s.foreign None is in
      flat (text v module_name_token) (interface_steps there) n d it.decl_kind it.name theirs
      ∙ ap (λ (name : List ℕ). option_map (λ (kind : DescriptorKind). module_path (text v module_name_token) ++ descriptor kind name ∷ []) (descriptor_kind it.decl_kind)) (named v r.row it s)
      ∙ ap (λ (y : Declaration). option_map (λ (kind : DescriptorKind). module_path (text v module_name_token) ++ descriptor kind (text v r.row.number) ∷ []) (descriptor_kind y.decl_kind)) (sym s.is)
      ∙ sym (flat (text v module_name_token) (declared_steps v) j r.row.number s.by.decl_kind (text v r.row.number) ours)
  by_record n j d k it rest l b number at r s (Some q) is =
      let of : it.of_record ≡ Some q = ap (λ (y : Declaration). y.of_record) (sym s.is) ∙ is in
      let f : OwnerSeen v q s.by.first = owner_seen v m same order s.by q (among v order r.place k r.row r.at r.has s.by s.foreign) is (block v order r.place k r.row r.at r.has s.by s.foreign) in
      let low : r.row.declared_by ≤ r.row.number = behind v m same order r.row (contains_slice v.rows.declared r.place r.row r.at) in
      let begins : s.by.first ≡ r.row.declared_by = first v order r.place k r.row r.at r.has s.by s.foreign in
      let has : r.row.number ≡ k = r.has in
      let owner_before : f.owner < s.by.first = f.before in
      let less : f.owner < r.row.number = omega (arith, low, begins, owner_before) in
      let less_seen : f.place < d = before f.place d f.owner k f.number number (omega (arith, less, has)) in
      let theirs : interface_steps there d ≡ Some (record { own = descriptor Term it.name; owner = Some f.place }) =
      rw at (ap (step_by there d it) of ∙ behind_owner d it.name (owner_index there q) f.place f.there less_seen) in
      let ours : declared_steps v r.row.number ≡ Some (record { own = descriptor Term (text v r.row.number); owner = Some f.owner }) =
      own v order r.place k r.row r.at r.has s.by s.foreign (Some q) is ∙ behind_owner r.row.number (text v r.row.number) (owner_at v q) f.owner f.here less in
      let up : path_seen n f.place ≡ path_here j f.owner = rest f.place f.owner f.it (omega (arith, less_seen, l)) (omega (arith, less, has, b)) f.number f.at in
      owned (text v module_name_token) (interface_steps there) n d f.place (descriptor Term it.name) theirs
      ∙ ap (option_map (λ (ds : List DescriptorModel). ds ++ descriptor Term it.name ∷ [])) up
      ∙ ap (λ (name : List ℕ). option_map (λ (ds : List DescriptorModel). ds ++ descriptor Term name ∷ []) (path_here j f.owner)) (named v r.row it s)
      ∙ sym (owned (text v module_name_token) (declared_steps v) j r.row.number f.owner (descriptor Term (text v r.row.number)) ours)

  row_seen : (d k : ℕ) (it : Declaration) → slice_get (exported_tokens v) d ≡ Some k → slice_get there.declarations d ≡ Some it → Row it k
  row_seen d k it number at = row_at (declaration_of v.bytes v.tokens v.rows) (λ (x : Declared). x.number) v.rows.declared it k d at number

  construct : (it : Declaration) (k : ℕ) (r : Row it k) → SeenBy v r.row it
  construct it k r = seen_by v r.row it (module_level_by v.rows.decl_groups r.row.declared_by) refl r.tells

  paths : (n j d k : ℕ) (it : Declaration) → d < n → k < j → slice_get (exported_tokens v) d ≡ Some k → slice_get there.declarations d ≡ Some it → path_seen n d ≡ path_here j k
  paths zero j d k it l b number at = absurd (omega (arith, l))
  paths (suc n) zero d k it l b number at = absurd (omega (arith, b))
  paths (suc n) (suc j) d k it l b number at =
      let r : Row it k = row_seen d k it number at in
      let s : SeenBy v r.row it = construct it k r in
      by_record n j d k it (λ p o y x z e f. paths n j p o y x z e f) l b number at r s s.by.of_record refl ∙ ap (path_here (suc j)) r.has

  -- the declaration at an index of the interface has the path of its token
  pub path_seen_is : (d k : ℕ) (it : Declaration) → slice_get (exported_tokens v) d ≡ Some k → slice_get there.declarations d ≡ Some it → interface_path there d ≡ declared_path v k
  path_seen_is d k it number at =
      ap (λ (name : List ℕ). path_within name (interface_steps there) (suc d) d) (own_named v) ∙ paths (suc d) (suc k) d k it (omega arith) (omega arith) number at

  pub symbol_here : (p : List ℕ) (d k : ℕ) (it : Declaration) → slice_get (exported_tokens v) d ≡ Some k → slice_get there.declarations d ≡ Some it → declared_symbol v p k ≡ option_map (global p) (declared_path v k)
  symbol_here p d k it number at =
      let r : Row it k = row_seen d k it number at in
      let s : SeenBy v r.row it = construct it k r in
      here v order r.place k r.row r.at r.has s.by s.foreign p ∙ ap (λ (j : ℕ). option_map (global p) (declared_path v j)) r.has

pub elsewhere : (w : World) (m : ModuleInterface) (p : List ℕ) (i d : ℕ) → slice_get w.reached i ≡ Some m → imported_symbol w p i d ≡ option_map (global p) (interface_path m d)
elsewhere w m p i d there = rw there refl

pub imported_symbol_equals_declared : (w v : World) (m : Module) (p : List ℕ) (i d k : ℕ) (it : Declaration) → v.rows ≡ rows_of m → AreRowsSorted v.rows → slice_get w.reached i ≡ Some (interface_of v.bytes v.tokens v.rows)
    → slice_get (exported_tokens v) d ≡ Some k → imported_declaration w i d ≡ Some it → imported_symbol w p i d ≡ declared_symbol v p k
imported_symbol_equals_declared w v m p i d k it same order reached number is =
    let at : slice_get (interface_of v.bytes v.tokens v.rows).declarations d ≡ Some it = seen_at w (interface_of v.bytes v.tokens v.rows) i d it reached is in
    elsewhere w (interface_of v.bytes v.tokens v.rows) p i d reached ∙ ap (option_map (global p)) (path_seen_is v m same order d k it number at) ∙ sym (symbol_here v m same order p d k it number at)
