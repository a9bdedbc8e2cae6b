-- The interface of a module, by the entries of the module's table.
use Rattle.std.proofs.Common.{◌≡◌, ℕ, zero, suc, List, [], ◌∷◌, Bool, true, false, cond, Option, Some, None, refl, sym, ap, ◌∙◌, eqb-true}
use Rattle.std.specs.Prelude.{slice_get, ◌==◌, position, Contains}
use Rattle.std.specs.List.{cons_option, filter_map}
use Rattle.std.specs.Option.{option_and_then, option_map}
use Rattle.std.proofs.lemmas.Bool.{and_parts}
use Rattle.module_table.specs.declared.rows.Declared.{Declared}
use Rattle.module_table.specs.declared.rows.DeclGroup.{DeclGroup}
use Rattle.module_table.specs.Order.{AreRowsSorted}
use Rattle.ob_interface.specs.Interfaces.{declaration, declaration_by, is_module_level, is_exportable, module_level_by, Declaration, ModuleInterface}
use Rattle.ob_interface.specs.Placed.{declaration_at}
use Rattle.ob_view.specs.World.{World, imported_declaration, declared_at, decl_group_from, decl_group_of}
use Rattle.module_table.proofs.Elements.{contains_slice}
use Rattle.ob_emit.specs.Symbols.{declared_symbol, global, is_local, declared_path, declared_step_by, declared_steps}
use Rattle.ob_emit.proofs.Naming.{found_there}
use Rattle.ob_emit.proofs.Numbered.{find_there, position_there}

-- ---- entries by index

-- the entry at an index among the entries with a declaration in the interface
pub record RowAt {X Y : Type 0} (f : X → Option Y) (n : X → ℕ) (xs : List X) (y : Y) (k : ℕ) : Type 0 where
  pub place : ℕ
  pub row : X
  pub at : slice_get xs place ≡ Some row
  pub tells : f row ≡ Some y
  pub has : n row ≡ k

module _ {X Y : Type 0} (f : X → Option Y) (n : X → ℕ) where
  abbrev numbers : List X → List ℕ
  numbers xs = filter_map (λ (x : X). option_map (λ (y : Y). n x) (f x)) xs

  later : (x : X) (xs : List X) (y : Y) (k : ℕ) → RowAt f n xs y k → RowAt f n (x ∷ xs) y k
  later x xs y k r = record { place = suc r.place; row = r.row; at = r.at; tells = r.tells; has = r.has }

  step : (x : X) (xs : List X) (y : Y) (k d : ℕ) (o : Option Y) → f x ≡ o → ((j : ℕ) → slice_get (filter_map f xs) j ≡ Some y → slice_get (numbers xs) j ≡ Some k → RowAt f n xs y k)
      → slice_get (cons_option o (filter_map f xs)) d ≡ Some y → slice_get (cons_option (option_map (λ (z : Y). n x) o) (numbers xs)) d ≡ Some k → RowAt f n (x ∷ xs) y k
  step x xs y k d None e rest h g = later x xs y k (rest d h g)
  step x xs y k zero (Some z) e rest h g = record { place = 0; row = x; at = refl; tells = e ∙ h; has = (let q : Some (n x) ≡ Some k = g in cc) }
  step x xs y k (suc d) (Some z) e rest h g = later x xs y k (rest d h g)

  pub row_at : (xs : List X) (y : Y) (k d : ℕ) → slice_get (filter_map f xs) d ≡ Some y → slice_get (numbers xs) d ≡ Some k → RowAt f n xs y k
  row_at [] y k d h g = absurd (let none : None ≡ Some y = h in cc)
  row_at (x ∷ xs) y k d h g = step x xs y k d (f x) refl (λ j p q. row_at xs y k j p q) h g

---- the interface

-- the declaration group of a declaration in the interface, in the module's block
pub record SeenBy (v : World) (r : Declared) (it : Declaration) : Type 0 where
  pub by : DeclGroup
  pub foreign : module_level_by v.rows.decl_groups r.declared_by ≡ Some by
  pub is : declaration v.bytes v.tokens v.rows.parts r by ≡ it

seen_if : (v : World) (r : Declared) (it : Declaration) (by : DeclGroup) (b : Bool) → module_level_by v.rows.decl_groups r.declared_by ≡ Some by
    → cond b (Some (declaration v.bytes v.tokens v.rows.parts r by)) None ≡ Some it → SeenBy v r it
seen_if v r it by true e h = record { by = by; foreign = e; is = (let f : Some (declaration v.bytes v.tokens v.rows.parts r by) ≡ Some it = h in cc) }
seen_if v r it by false e h = cc

pub seen_by : (v : World) (r : Declared) (it : Declaration) (o : Option DeclGroup) → module_level_by v.rows.decl_groups r.declared_by ≡ o → declaration_by v.bytes v.tokens v.rows.parts r o ≡ Some it → SeenBy v r it
seen_by v r it None e h = cc
seen_by v r it (Some by) e h = seen_if v r it by (is_exportable by.decl_kind) e h

module _ (v : World) (order : AreRowsSorted v.rows) (place k : ℕ) (r : Declared) (at : slice_get v.rows.declared place ≡ Some r) (has : r.number ≡ k) (by : DeclGroup) (foreign : module_level_by v.rows.decl_groups r.declared_by ≡ Some by) where
  pub passes : ((by.block == 0) ≡ true) × ((by.first == r.declared_by) ≡ true)
  passes = let f = found_there (is_module_level r.declared_by) v.rows.decl_groups by foreign in and_parts (by.block == 0) (by.first == r.declared_by) f.2

  pub from : decl_group_from v r.declared_by ≡ Some by
  unfolding decl_group_from
  from =
      let f = found_there (is_module_level r.declared_by) v.rows.decl_groups by foreign in
      find_there (λ (c : DeclGroup). c.first) v.rows.decl_groups f.0 r.declared_by by order.decl_groups f.1 (eqb-true by.first r.declared_by passes.1)

  declared : declared_at v r.number ≡ Some r
  unfolding declared_at
  declared = find_there (λ (d : Declared). d.number) v.rows.declared place r.number r order.declared at refl

  pub of : decl_group_of v r.number ≡ Some by
  unfolding decl_group_of
  of = rw declared from

  pub local_not : is_local v r ≡ false
  local_not = rw from (rw passes.0 refl)

  pub among : Contains v.rows.decl_groups by
  among = let f = found_there (is_module_level r.declared_by) v.rows.decl_groups by foreign in contains_slice v.rows.decl_groups f.0 by f.1

  pub block : by.block ≡ 0
  block = eqb-true by.block 0 passes.0

  pub first : by.first ≡ r.declared_by
  first = eqb-true by.first r.declared_by passes.1

  pub own : (x : Option ℕ) → by.of_record ≡ x → declared_steps v r.number ≡ declared_step_by v r.number by.decl_kind x
  own x is = rw of (rw passes.0 (ap (declared_step_by v r.number by.decl_kind) is))

  pub here : (p : List ℕ) → declared_symbol v p k ≡ option_map (global p) (declared_path v r.number)
  here p =
      let e : position (λ (d : Declared). d.number == k) v.rows.declared ≡ Some place =
      position_there (λ (d : Declared). d.number) v.rows.declared place k order.declared (record { element = r; there = at; has = has }) in
      rw e (rw at (rw local_not refl))

pub seen_at : (w : World) (m : ModuleInterface) (i d : ℕ) (it : Declaration) → slice_get w.reached i ≡ Some m → imported_declaration w i d ≡ Some it → slice_get m.declarations d ≡ Some it
unfolding imported_declaration
seen_at w m i d it there is = sym (ap (option_and_then (λ (n : ModuleInterface). declaration_at n d)) there) ∙ is
