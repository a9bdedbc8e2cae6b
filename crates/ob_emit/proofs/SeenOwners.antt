-- The owner of a record of a module's block is the same in the interface as in the module.
use Rattle.std.proofs.Common.{◌≡◌, ℕ, ◌<◌, ◌≤◌, ◌-◌, ◌==◌, length, true, false, Option, Some, None, refl, sym, ap, ◌∙◌, subst, arith, eqb-true}
use Rattle.std.specs.Prelude.{slice_get, Contains, option_map}
use Rattle.std.specs.List.{filter}
use Rattle.std.proofs.lemmas.Bool.{and_parts, eq-eqb}
use Rattle.ob_tree.specs.declared.declaration.Module.{Module}
use Rattle.module_table.specs.declared.rows.Declared.{Declared}
use Rattle.module_table.specs.declared.rows.DeclGroup.{DeclGroup}
use Rattle.module_table.specs.declared.rows.TypePart.{TypePart}
use Rattle.module_table.specs.declared.rows.Part.{Part as PartRow}
use Rattle.module_table.specs.declared.rows.Part.TheVariants as parts
use Rattle.module_table.specs.declared.rows.Record.{Record as RecordRow}
use Rattle.module_table.specs.declared.rows.DeclKind.{DeclKind}
use Rattle.module_table.specs.declared.rows.DeclKind.TheVariants as decl_kinds
use Rattle.table_rules.specs.Declaring.{rows_of}
use Rattle.module_table.specs.Order.{AreRowsSorted}
use Rattle.module_table.specs.Parts.{Rows}
use Rattle.ob_interface.specs.Interfaces.{declaration, declaration_of, type_expr_by, interface_of, is_module_level, is_part_by, is_exportable, module_level_by, part_at, part_of, Declaration}
use Rattle.ob_interface.specs.Placed.{holds, is_record, owner_index}
use Rattle.table_laws.specs.Owners.{has_type, EndsTypeExpr, IsFieldOf, IsOfRecord}
use Rattle.table_laws.proofs.StandingModules.{behind_first, ends_form, has_owner, of_record}
use Rattle.module_table.proofs.Around.{ascend_one}
use Rattle.module_table.proofs.Elements.{contains_slice, slice_contains}
use Rattle.ob_view.specs.World.{World, owner_at, record_at}
use Rattle.ob_emit.specs.DistinctSymbols.{exported_tokens}
use Rattle.ob_emit.proofs.Numbered.{find_among}
use Rattle.ob_emit.proofs.SeenLists.{find_only, last_map, last_passed, passed, position_first, PassedAt}
use Rattle.ob_emit.proofs.SeenOrder.{ascend, number_there, index_of, PlaceOf}
use Rattle.ob_emit.proofs.SeenSymbols.{row_at, seen_by, RowAt, SeenBy}

-- the owner of a record
pub owner_is : (w : World) → AreRowsSorted w.rows → (row : RecordRow) (r : ℕ) → Contains w.rows.records row → row.number ≡ r → owner_at w r ≡ Some row.owner
unfolding owner_at record_at
owner_is w order row r h e = rw (find_among (λ (x : RecordRow). x.number) w.rows.records r row order.records h e) refl

-- a declaration with a type is in the interface
seen_type : (s : DeclKind) → has_type s ≡ true → is_exportable s ≡ true
seen_type decl_kinds.Import e = absurd (let f : false ≡ true = e in cc)
seen_type decl_kinds.Constant e = refl
seen_type decl_kinds.Type e = refl
seen_type decl_kinds.Variable e = refl
seen_type decl_kinds.Procedure e = refl
seen_type decl_kinds.Parameter e = absurd (let f : false ≡ true = e in cc)
seen_type decl_kinds.Field e = refl

-- a component of the type of a declaration group is this RECORD
record Held (rows : Rows) (k o : ℕ) : Type 0 where
  part : TypePart
  among : Contains rows.parts part
  declared_by : part.declared_by ≡ o
  is : part.part ≡ parts.Record
  number : part.number ≡ k

-- the owner of a record precedes the declaration at this token, and its index in the interface
pub record OwnerSeen (v : World) (r first : ℕ) : Type 0 where
  pub owner : ℕ
  pub place : ℕ
  pub it : Declaration
  pub at : slice_get (interface_of v.bytes v.tokens v.rows).declarations place ≡ Some it
  pub here : owner_at v r ≡ Some owner
  pub there : owner_index (interface_of v.bytes v.tokens v.rows) r ≡ Some place
  pub number : slice_get (exported_tokens v) place ≡ Some owner
  pub before : owner < first

module _ (v : World) (m : Module) (same : v.rows ≡ rows_of m) (order : AreRowsSorted v.rows) where
  abbrev told : Declared → DeclGroup → Declaration
  told d by = declaration v.bytes v.tokens v.rows.parts d by

  ends : (r : RecordRow) → Contains v.rows.records r → EndsTypeExpr v.rows r
  ends = subst (λ (rows : Rows). (r : RecordRow) → Contains rows.records r → EndsTypeExpr rows r) (sym same) (ends_form m)

  alone : (q : TypePart) → Contains v.rows.parts q → q.part ≡ parts.Record → IsOfRecord v.rows q
  alone = subst (λ (rows : Rows). (q : TypePart) → Contains rows.parts q → q.part ≡ parts.Record → IsOfRecord rows q) (sym same) (of_record m)

  field_of : (f : DeclGroup) (r : ℕ) → Contains v.rows.decl_groups f → f.of_record ≡ Some r → IsFieldOf v.rows f r
  field_of = subst (λ (rows : Rows). (f : DeclGroup) (r : ℕ) → Contains rows.decl_groups f → f.of_record ≡ Some r → IsFieldOf rows f r) (sym same) (has_owner m)

  pub behind : (d : Declared) → Contains v.rows.declared d → d.declared_by ≤ d.number
  behind = subst (λ (rows : Rows). (d : Declared) → Contains rows.declared d → d.declared_by ≤ d.number) (sym same) (behind_first m)

  last_of : (k : ℕ) → slice_get (type_expr_by v.bytes v.tokens v.rows.parts k) (length (type_expr_by v.bytes v.tokens v.rows.parts k) - 1)
      ≡ option_map (part_of v.bytes v.tokens) (slice_get (filter (is_part_by k) v.rows.parts) (length (filter (is_part_by k) v.rows.parts) - 1))
  last_of k = last_map (part_of v.bytes v.tokens) (filter (is_part_by k) v.rows.parts)

  -- the type of the owner ends in the record
  owner_holds : (row : RecordRow) (d : Declared) (by : DeclGroup) → Contains v.rows.records row → d.declared_by ≡ row.owner → holds row.number (told d by) ≡ true
  owner_holds row d by h e =
      let x : EndsTypeExpr v.rows row = ends row h in
      let at = slice_contains v.rows.parts x.part x.among in
      let passes : is_part_by d.declared_by x.part ≡ true = eq-eqb x.part.declared_by d.declared_by (x.declared_by ∙ sym e) in
      let last : slice_get (filter (is_part_by d.declared_by) v.rows.parts) (length (filter (is_part_by d.declared_by) v.rows.parts) - 1) ≡ Some x.part =
      last_passed (is_part_by d.declared_by) (λ (p : TypePart). p.number) v.rows.parts at.0 x.part order.parts at.1 passes
      (λ q j f. subst (λ (k : ℕ). q.number ≤ k) (sym x.number) (x.last q j (eqb-true q.declared_by d.declared_by f ∙ e))) in
      ap (is_record row.number) (last_of d.declared_by ∙ ap (option_map (part_of v.bytes v.tokens)) last)
      ∙ ap (λ (kind : PartRow). is_record row.number (Some (part_at v.bytes v.tokens x.part.number kind))) x.is
      ∙ eq-eqb x.part.number row.number x.number

  record_part : (k : ℕ) (q : TypePart) (kind : PartRow) → q.part ≡ kind → is_record k (Some (part_at v.bytes v.tokens q.number kind)) ≡ true → (q.part ≡ parts.Record) × (q.number ≡ k)
  record_part k q parts.Array is e = absurd (let f : false ≡ true = e in cc)
  record_part k q parts.Pointer is e = absurd (let f : false ≡ true = e in cc)
  record_part k q parts.Record is e = (is, eqb-true q.number k e)
  record_part k q parts.Procedure is e = absurd (let f : false ≡ true = e in cc)
  record_part k q (parts.Named n) is e = absurd (let f : false ≡ true = e in cc)

  held_by : (k o j : ℕ) (x : Option TypePart) → slice_get (filter (is_part_by o) v.rows.parts) j ≡ x → is_record k (option_map (part_of v.bytes v.tokens) x) ≡ true → Held v.rows k o
  held_by k o j None at e = absurd (let f : false ≡ true = e in cc)
  held_by k o j (Some q) at e =
      let p : PassedAt (is_part_by o) v.rows.parts q = passed (is_part_by o) v.rows.parts j q at in
      let r = record_part k q q.part refl e in
      record { part = q; among = contains_slice v.rows.parts p.place q p.at; declared_by = eqb-true q.declared_by o p.passes; is = r.0; number = r.1 }

  -- the declaration whose type holds a record is the record's owner
  owner_by : (row : RecordRow) (d : Declared) (by : DeclGroup) → Contains v.rows.records row → holds row.number (told d by) ≡ true → d.declared_by ≡ row.owner
  owner_by row d by h e =
      let x : Held v.rows row.number d.declared_by =
      held_by row.number d.declared_by (length (filter (is_part_by d.declared_by) v.rows.parts) - 1) (slice_get (filter (is_part_by d.declared_by) v.rows.parts) (length (filter (is_part_by d.declared_by) v.rows.parts) - 1)) refl
      (sym (ap (is_record row.number) (last_of d.declared_by)) ∙ e) in
      let y : IsOfRecord v.rows x.part = alone x.part x.among x.is in
      let one : y.row ≡ row = ascend_one (λ (r : RecordRow). r.number) v.rows.records y.row row order.records y.among h (y.number ∙ x.number) in
      sym x.declared_by ∙ sym y.owner ∙ ap (λ (r : RecordRow). r.owner) one

  outer_there : (k : ℕ) (by : DeclGroup) → Contains v.rows.decl_groups by → by.first ≡ k → by.block ≡ 0 → module_level_by v.rows.decl_groups k ≡ Some by
  outer_there k by h first block =
      let at = slice_contains v.rows.decl_groups by h in
      let passes : is_module_level k by ≡ true = rw (eq-eqb by.block 0 block) (eq-eqb by.first k first) in
      find_only (is_module_level k) v.rows.decl_groups at.0 by at.1 passes (λ y j e.
      let f : y.first ≡ k = eqb-true y.first k (and_parts (y.block == 0) (y.first == k) e).1 in
      ascend_one (λ (c : DeclGroup). c.first) v.rows.decl_groups y by order.decl_groups j h (f ∙ sym first))

  -- no declaration before the owner holds the record
  none_before : (row : RecordRow) (p j : ℕ) (y : Declaration) → Contains v.rows.records row → slice_get (exported_tokens v) p ≡ Some row.owner → j < p
      → slice_get (interface_of v.bytes v.tokens v.rows).declarations j ≡ Some y → holds row.number y ≡ true → ⊥
  none_before row p j y h is l at e =
      let k = number_there (declaration_of v.bytes v.tokens v.rows) (λ (d : Declared). d.number) v.rows.declared j y at in
      let s : RowAt (declaration_of v.bytes v.tokens v.rows) (λ (d : Declared). d.number) v.rows.declared y k.0 = row_at (declaration_of v.bytes v.tokens v.rows) (λ (d : Declared). d.number) v.rows.declared y k.0 j at k.1 in
      let b : SeenBy v s.row y = seen_by v s.row y (module_level_by v.rows.decl_groups s.row.declared_by) refl s.tells in
      let by_owner : s.row.declared_by ≡ row.owner = owner_by row s.row b.by h (ap (holds row.number) b.is ∙ e) in
      let up : k.0 < row.owner = ascend (declaration_of v.bytes v.tokens v.rows) (λ (d : Declared). d.number) v.rows.declared order.declared j p k.0 row.owner l k.1 is in
      let low : s.row.declared_by ≤ s.row.number = behind s.row (contains_slice v.rows.declared s.place s.row s.at) in
      let has : s.row.number ≡ k.0 = s.has in
      omega (arith, by_owner, up, low, has)

  -- the owner of a field's record
  pub owner_seen : (f : DeclGroup) (r : ℕ) → Contains v.rows.decl_groups f → f.of_record ≡ Some r → f.block ≡ 0 → OwnerSeen v r f.first
  owner_seen f r h is foreign =
      let x : IsFieldOf v.rows f r = field_of f r h is in
      let it : Declaration = told x.declared x.by in
      let by_outer : module_level_by v.rows.decl_groups x.declared.declared_by ≡ Some x.by = outer_there x.declared.declared_by x.by x.by_among (x.first ∙ sym x.declared_by) (x.block ∙ foreign) in
      let tells : declaration_of v.bytes v.tokens v.rows x.declared ≡ Some it = rw by_outer (rw (seen_type x.by.decl_kind x.decl_kind) refl) in
      let at = slice_contains v.rows.declared x.declared x.declared_among in
      let p : PlaceOf (interface_of v.bytes v.tokens v.rows).declarations (exported_tokens v) it x.declared.number =
      index_of (declaration_of v.bytes v.tokens v.rows) (λ (d : Declared). d.number) v.rows.declared at.0 x.declared it at.1 tells in
      let number : slice_get (exported_tokens v) p.place ≡ Some x.row.owner = p.number ∙ ap Some x.declared_number in
      let has : holds x.row.number it ≡ true = owner_holds x.row x.declared x.by x.among x.declared_by in
      let there : owner_index (interface_of v.bytes v.tokens v.rows) x.row.number ≡ Some p.place =
      position_first (holds x.row.number) (interface_of v.bytes v.tokens v.rows).declarations p.place it p.at has (λ j y l e g. none_before x.row p.place j y x.among number l e g) in
      record {
        owner = x.row.owner;
        place = p.place;
        it = it;
        at = p.at;
        here = owner_is v order x.row r x.among x.number;
        there = ap (owner_index (interface_of v.bytes v.tokens v.rows)) (sym x.number) ∙ there;
        number = number;
        before = x.before;
      }
