-- The name of a type in a module's block denotes for other modules what the module's own scopes give it.
use Rattle.std.proofs.Common.{◌≡◌, ℕ, zero, suc, ◌<◌, ◌⊎◌, inl, inr, Bool, true, false, List, [], ◌∷◌, length, map, Option, Some, None, refl, sym, ap, ◌∙◌, subst, arith}
use Rattle.std.specs.Prelude.{◌↔◌, ◌||◌, ◌&&◌, Contains, find, nat_lt, slice_get, if◌then◌else◌}
use Rattle.std.specs.List.{cons_option, filter_map}
use Rattle.std.specs.Option.{option_and_then, option_map}
use Rattle.std.specs.Str.{bytes_eq}
use Rattle.std.proofs.lemmas.Bool.{cases_Bool, cases_lt, lt-ltb, ltb-true}
use Rattle.std.proofs.lemmas.List.{length-map}
use Rattle.std.proofs.lemmas.Option.{slice_get_within}
use Rattle.std.proofs.lemmas.Slice.Eq.{bytes_eq-Decides}
use Rattle.ob_scan.specs.declared.kind.Kind.TheVariants as kinds
use Rattle.ob_scan.specs.declared.token.Token.{Token}
use Rattle.ob_scan.specs.Spelling.{AreInText}
use Rattle.ob_scan.specs.Texts.{no_token, text_at}
use Rattle.ob_scan.proofs.Places.{spelled_in_text}
use Rattle.ob_tree.specs.declared.declaration.Module.{Module}
use Rattle.module_table.specs.declared.rows.Declared.{Declared}
use Rattle.module_table.specs.declared.rows.DeclGroup.{DeclGroup}
use Rattle.module_table.specs.declared.rows.Import.{Import}
use Rattle.module_table.specs.declared.rows.DeclKind.{DeclKind}
use Rattle.module_table.specs.declared.rows.DeclKind.TheVariants as decl_kinds
use Rattle.module_table.specs.declared.rows.Used.{Used}
use Rattle.module_table.specs.Blocks.{Encloses, itself}
use Rattle.module_table.specs.Order.{AreRowsSorted}
use Rattle.module_table.specs.Parts.{Rows}
use Rattle.module_table.proofs.Around.{around-le, ascend_one}
use Rattle.table_rules.specs.Declaring.{rows_of}
use Rattle.table_rules.proofs.Derived.{declared_ident, used_ident}
use Rattle.table_rules.proofs.LinedModules.{rows_in_order}
use Rattle.ob_interface.specs.Interfaces.{Simple, declaration, imported_of, interface_of, start_at, Declaration, Imported, ModuleInterface}
use Rattle.ob_interface.specs.OwnTable.{Declares}
use Rattle.ob_interface.specs.Placed.{declaration_at, module_named, index_of}
use Rattle.ob_interface.proofs.FoundRows.{found_rows}
use Rattle.scopes.specs.declared.members.Member.{Member}
use Rattle.scopes.specs.declared.members.Scope.{Scope}
use Rattle.scopes.specs.declared.members.Scope.TheVariants.{Block}
use Rattle.scopes.specs.Members.{decl_group_at, declared_member, members_of, group_scope}
use Rattle.scopes.specs.Scope.{as_target, by_scope, ResolvesTo, IsVisible}
use Rattle.scopes.specs.Scoped.{ModuleScopes}
use Rattle.module_table.proofs.Elements.{slice_contains}
use Rattle.scopes.proofs.Meanings.{member_once}
use Rattle.ob_scope.proofs.Placing.{declarer_found}
use Rattle.type_graph.specs.declared.shape.Shape.TheVariants as shapes
use Rattle.ob_types.specs.declared.nodes.Named.TheVariants as named
use Rattle.ob_types.specs.declared.nodes.Node.TheVariants as nodes
use Rattle.ob_types.specs.Shapes.{TypeShape, is_type, shape_or_unknown, may_mean, resolve_imported_name, type_if_visible, visible_type, declared_type_shape}
use Rattle.ob_view.specs.World.{World, imported_declaration, named_declaration, aliased_module_name}
use Rattle.ob_targets.specs.ScopeRule.{IsBlockUse, MeansAlias, MeansType}
use Rattle.ob_targets.proofs.Aliased.{alias_before, aliased}
use Rattle.ob_targets.specs.SyntaxPositionKinds as contexts
use Rattle.ob_targets.proofs.OneContext.{syntax_position_is_unique}

-- ---- lists

picked_one : {X Y : Type 0} (h : X → Option Y) (x : X) (o : Option Y) (y : Y) (ys : List Y) → h x ≡ o → Contains ys y → Contains (cons_option o ys) y
picked_one h x None y ys e has = has
picked_one h x (Some z) y ys e (i, l, g) = (suc i, omega arith, g)

in_picked : {X Y : Type 0} (h : X → Option Y) (xs : List X) (x : X) (y : Y) → h x ≡ Some y → Contains xs x → Contains (filter_map h xs) y
in_picked h [] x y e (i, l, g) = absurd (omega arith)
in_picked h (z ∷ zs) x y e (zero, l, g) = let is : h z ≡ Some y = ap h g ∙ e in rw is (zero, omega arith, refl)
in_picked h (z ∷ zs) x y e (suc i, l, g) = picked_one h z (h z) y (filter_map h zs) refl (in_picked h zs x y e (i, omega arith, g))

is_type_sort : (s : DeclKind) → is_type s ≡ true → s ≡ decl_kinds.Type
is_type_sort decl_kinds.Type e = refl
is_type_sort s e = absurd cc

or_cases : (a b : Bool) → (a || b) ≡ true → (a ≡ true) ⊎ ((a ≡ false) × (b ≡ true))
or_cases true b e = inl refl
or_cases false b e = inr (refl, e)

or_right : (a b : Bool) → b ≡ true → (a || b) ≡ true
or_right true b e = refl
or_right false b e = e

and_left : (a b : Bool) → (a && b) ≡ true → a ≡ true
and_left true b e = refl
and_left false b e = absurd cc

both_true : (a b : Bool) → a ≡ true → b ≡ true → (a && b) ≡ true
both_true a b e f = rw (e, f) refl

-- ---- a name of the module's block

module _ (bytes : List ℕ) (ts : List Token) (m : Module) (s : ModuleScopes) (u : Used) where
  abbrev rows : Rows
  rows = rows_of m

  abbrev text : ℕ → List ℕ
  text = text_at bytes ts

  abbrev name : List ℕ
  name = text u.number

  abbrev seen : ModuleInterface
  seen = interface_of bytes ts rows

  abbrev start : ℕ
  start = start_at ts u.number

  module _ (is : IsBlockUse bytes ts m s u) where
    order : AreRowsSorted rows
    order = rows_in_order m

    in_text : AreInText bytes ts
    in_text = spelled_in_text bytes ts is.spelled

    use_low : u.number < length ts
    use_low =
        let l = slice_get_within (map (λ (t : Token). t.kind) ts) u.number kinds.Ident (used_ident (map (λ (t : Token). t.kind) ts) m is.derives u is.is_use) in
        let e = length-map ts (λ (t : Token). t.kind) in
        omega (arith, l, e)

    row_low : (row : Declared) → Contains rows.declared row → row.number < length ts
    row_low row has =
        let l = slice_get_within (map (λ (t : Token). t.kind) ts) row.number kinds.Ident (declared_ident (map (λ (t : Token). t.kind) ts) m is.derives row has) in
        let e = length-map ts (λ (t : Token). t.kind) in
        omega (arith, l, e)

    starts : (a b : ℕ) → a < b → b < length ts → start_at ts a < start_at ts b
    starts a b lt low =
        let e = in_text.apart a b no_token lt low in
        let f = in_text.some a no_token (omega (arith, lt, low)) in
        omega (arith, e, f)

    starts_back : (a b : ℕ) → a < length ts → start_at ts a < start_at ts b → a < b
    starts_back a b low lt = elim (cases_lt a b) [
      | inl below ↦ below
      | inr above ↦ elim (cases_lt b a) [
        | inl less ↦ (let e = starts b a less low in absurd (omega (arith, e, lt)))
        | inr more ↦ (let same : a ≡ b = omega (arith, above, more) in let e = ap (start_at ts) same in absurd (omega (arith, e, lt)))
      ]
    ]

    never_both : (row : Declared) → Contains rows.declared row → row.number ≡ u.number → ⊥
    never_both row has same =
        let e = syntax_position_is_unique m u.number contexts.Declaration contexts.Use (contexts.declared row has same) (contexts.used u is.is_use refl) in cc

    -- the member of an entry that declares the name
    abbrev member : Declared → DeclGroup → Member
    member row by = record { place = Block 0; number = row.number; decl_kind = by.decl_kind }

    scope_is : (by : DeclGroup) → by.of_record ≡ None → by.block ≡ 0 → group_scope by ≡ Block 0
    scope_is by none block = rw none (ap (λ (b : ℕ). Block b) block)

    in_members : (row : Declared) (by : DeclGroup) → Contains rows.declared row → Contains rows.decl_groups by → by.first ≡ row.declared_by → by.of_record ≡ None → by.block ≡ 0 → Contains (members_of rows) (member row by)
    in_members row by is_row is_construct begins no_field in_block =
        let (at, there) = slice_contains rows.decl_groups by is_construct in
        let found : decl_group_at rows.decl_groups row.declared_by ≡ Some by = declarer_found rows.decl_groups at row.declared_by by order.decl_groups there begins in
        let made : declared_member row (Some by) ≡ Some (member row by) = ap (λ (p : Scope). Some (record { place = p; number = row.number; decl_kind = by.decl_kind })) (scope_is by no_field in_block) in
        in_picked (λ (x : Declared). declared_member x (decl_group_at rows.decl_groups x.declared_by)) rows.declared row (member row by) (ap (declared_member row) found ∙ made) is_row

    is_member : (row : Declared) (by : DeclGroup) → Declares bytes ts rows None name row by → Contains (members_of rows) (member row by)
    is_member row by d = in_members row by d.is_row d.is_construct d.begins d.in_record d.in_block

    -- a member that is visible at the use is in the module's block
    seen_outer : (b : ℕ) (e : Member) → IsVisible text rows.blocks (members_of rows) u b e → b ≡ 0
    seen_outer b e sees = let le = around-le rows.blocks b 0 (subst (Encloses rows.blocks b) is.outer sees.around) in omega (arith, le)

    -- what is visible in the module's block is what the use resolves to
    resolved_outer : (e : Member) → Contains (members_of rows) e → e.place ≡ Block 0 → text e.number ≡ name → e.number < u.number → ResolvesTo text rows.blocks (members_of rows) u e
    resolved_outer e has placed is_named before = by_scope (record {
      block = 0;
      seen = record { declared = has; placed = placed; named = is_named; before = before; around = itself (sym is.outer) };
      innermost = λ b other sees. subst (Encloses rows.blocks b) is.outer sees.around;
    })

    -- the use means the declaration of its name in the module's block
    meant : (k : ℕ) → Contains s.meanings (record { used = u.number; declared = k }) → (e : Member) × (e.number ≡ k) × ResolvesTo text rows.blocks (members_of rows) u e
    meant k has =
        let means = (is.scopes.meanings u.number k).0 has in
        let same : means.use_row ≡ u = ascend_one (λ (x : Used). x.number) rows.uses means.use_row u order.uses means.is_use is.is_use means.of_use in
        (means.named_declaration, means.of_declared, subst (λ (x : Used). ResolvesTo text rows.blocks (members_of rows) x means.named_declaration) same means.means)

    resolves : (row : Declared) (by : DeclGroup) → Declares bytes ts rows None name row by → by.decl_kind ≡ decl_kinds.Type → may_mean start u.is_target (declaration bytes ts rows.parts row by) ≡ true
        → ResolvesTo text rows.blocks (members_of rows) u (member row by)
    resolves row by d a_type may = elim (or_cases (nat_lt (start_at ts row.number) start) (u.is_target && is_type by.decl_kind) may) [
      | inl before ↦ by_scope (record {
        block = 0;
        seen = record {
          declared = is_member row by d;
          placed = refl;
          named = d.named;
          before = starts_back row.number u.number (row_low row d.is_row) (ltb-true (start_at ts row.number) start before);
          around = itself (sym is.outer);
        };
        innermost = λ b e sees. subst (Encloses rows.blocks b) is.outer sees.around;
      })
      | inr (not_before, target) ↦
          let differ : row.number ≡ u.number → ⊥ = never_both row d.is_row in
          let after : u.number < row.number = elim (cases_lt u.number row.number) [
            | inl lt ↦ lt
            | inr le ↦ elim (cases_lt row.number u.number) [
              | inl lt ↦ (let e : nat_lt (start_at ts row.number) start ≡ true = lt-ltb (start_at ts row.number) start (starts row.number u.number lt use_low) in absurd (let f : true ≡ false = sym e ∙ not_before in cc))
              | inr ge ↦ absurd (differ (omega (arith, le, ge)))
            ]
          ] in
          as_target (and_left u.is_target (is_type by.decl_kind) target)
          (λ b e sees.
          let same : e ≡ member row by = member_once text (members_of rows) e (member row by) is.scopes.once sees.declared (is_member row by d) (sees.placed ∙ ap (λ (x : ℕ). Block x) (seen_outer b e sees), sees.named ∙ sym d.named) in
          let number = ap (λ (x : Member). x.number) same in
          let before = sees.before in
          omega (arith, number, before, after))
          (record {
            declared = is_member row by d;
            placed = ap (λ (x : ℕ). Block x) (sym is.outer);
            named = d.named;
            after = after;
            a_type = a_type;
          })
    ]

    may : (row : Declared) (by : DeclGroup) → Declares bytes ts rows None name row by → by.decl_kind ≡ decl_kinds.Type → Contains s.meanings (record { used = u.number; declared = row.number }) → may_mean start u.is_target (declaration bytes ts rows.parts row by) ≡ true
    may row by d a_type has = let (e, number, resolved) = meant row.number has in at e number resolved
      where
        at : (e : Member) → e.number ≡ row.number → ResolvesTo text rows.blocks (members_of rows) u e → may_mean start u.is_target (declaration bytes ts rows.parts row by) ≡ true
        at e number (by_scope r) =
            let before = r.seen.before in
            ap (λ (b : Bool). b || (u.is_target && is_type by.decl_kind)) (lt-ltb (start_at ts row.number) start (starts row.number u.number (omega (arith, number, before)) use_low))
        at e number (as_target t n l) = or_right (nat_lt (start_at ts row.number) start) (u.is_target && is_type by.decl_kind) (both_true u.is_target (is_type by.decl_kind) t (ap is_type a_type))

    -- ---- aliases

    alias_member : (item : Import) → Contains rows.imports item → (e : Member) × Contains (members_of rows) e × (e.place ≡ Block 0) × (e.number ≡ item.alias)
    alias_member item has =
        let h = aliased m item has in
        (member h.row h.by, in_members h.row h.by h.is_row h.is_construct h.begins h.no_field h.in_block, refl, h.number)

    -- a use of this name means the alias
    alias_means : (item : Import) → Contains rows.imports item → text item.alias ≡ name → Contains s.meanings (record { used = u.number; declared = item.alias })
    alias_means item has is_named =
        let (e, is_in, placed, number) = alias_member item has in
        let before = alias_before m item u has is.is_use in
        let resolved = resolved_outer e is_in placed (ap text number ∙ is_named) (omega (arith, number, before)) in
        (is.scopes.meanings u.number item.alias).1 (record { use_row = u; is_use = is.is_use; of_use = refl; named_declaration = e; means = resolved; of_declared = number })

    resolved_name : (e : Member) → ResolvesTo text rows.blocks (members_of rows) u e → text e.number ≡ name
    resolved_name e (by_scope r) = r.seen.named
    resolved_name e (as_target t n l) = l.named

    -- items of one name are equal
    one_item : (a b : Import) → Contains rows.imports a → Contains rows.imports b → text a.alias ≡ text b.alias → a ≡ b
    one_item a b has other same =
        let (e, is_in, placed, number) = alias_member a has in
        let (f, is_other, other_placed, other_number) = alias_member b other in
        let one : e ≡ f = member_once text (members_of rows) e f is.scopes.once is_in is_other (placed ∙ sym other_placed, ap text number ∙ same ∙ ap text (sym other_number)) in
        ascend_one (λ (x : Import). x.alias) rows.imports a b order.imports has other (sym number ∙ ap (λ (x : Member). x.number) one ∙ other_number)

    abbrev named_alike : Import → Bool
    named_alike item = bytes_eq (text item.alias) name

    abbrev found_own : List Import → Option (List ℕ)
    found_own items = option_map (λ (x : Imported). x.module_name) (find (λ (x : Imported). bytes_eq x.alias name) (map (imported_of bytes ts) items))

    record IsFoundItem (items : List Import) (own : List ℕ) : Type 0 where
      item : Import
      among : Contains items item
      is_named : text item.alias ≡ name
      module_is : text item.imported ≡ own

    later_item : (x : Import) (items : List Import) (own : List ℕ) → IsFoundItem items own → IsFoundItem (x ∷ items) own
    later_item x items own h = let (i, l, e) = h.among in record { item = h.item; among = (suc i, omega arith, e); is_named = h.is_named; module_is = h.module_is }

    found_item : (items : List Import) (own : List ℕ) → found_own items ≡ Some own → IsFoundItem items own
    found_item [] own e = absurd cc
    found_item (x ∷ items) own e = elim (cases_Bool (named_alike x)) [
      | inl t ↦ (let f : Some (text x.imported) ≡ Some own = rw t at e in record { item = x; among = (zero, omega arith, refl); is_named = (bytes_eq-Decides (text x.alias) name).0 t; module_is = cc })
      | inr f ↦ later_item x items own (found_item items own (rw f at e))
    ]

    some_found : (items : List Import) (item : Import) → Contains items item → text item.alias ≡ name → (own : List ℕ) × (found_own items ≡ Some own)
    some_found [] item (i, l, e) is_named = absurd (omega arith)
    some_found (x ∷ items) item has is_named = elim (cases_Bool (named_alike x)) [
      | inl t ↦ (text x.imported, rw t refl)
      | inr f ↦ (let rest = some_found items item (others has f) is_named in (rest.0, rw f rest.1))
    ]
      where
        others : Contains (x ∷ items) item → named_alike x ≡ false → Contains items item
        others (zero, l, e) f = absurd (let t : named_alike x ≡ true = (bytes_eq-Decides (text x.alias) name).1 (ap (λ (y : Import). text y.alias) e ∙ is_named) in let g : true ≡ false = sym t ∙ f in cc)
        others (suc i, l, e) f = (i, omega arith, e)

    -- ---- in the source of another module

    module _ (w : World) (i : ℕ) (there : slice_get w.reached i ≡ Some seen) where
      abbrev shape_at : ℕ → TypeShape
      shape_at d = shapes.Named (named.Other i d) (nodes.Other i d 0)

      abbrev seen_at : ℕ → Option TypeShape
      seen_at d = option_and_then (type_if_visible i d start u.is_target) (declaration_at seen d)

      type_at : (d : ℕ) → visible_type w i start u.is_target d ≡ seen_at d
      unfolding visible_type imported_declaration
      type_at d = ap (λ (o : Option ModuleInterface). option_and_then (type_if_visible i d start u.is_target) (option_and_then (λ (x : ModuleInterface). declaration_at x d) o)) there

      placed : named_declaration w i name ≡ index_of seen None name
      unfolding named_declaration
      placed = ap (option_and_then (λ (x : ModuleInterface). index_of x None name)) there

      denoted : resolve_imported_name w i start u.is_target (Simple name) ≡ shape_or_unknown (option_and_then seen_at (index_of seen None name))
      unfolding resolve_imported_name
      denoted = ap (λ (o : Option ℕ). shape_or_unknown (option_and_then (visible_type w i start u.is_target) o)) placed ∙ ap (λ (f : ℕ → Option TypeShape). shape_or_unknown (option_and_then f (index_of seen None name))) (λ j d. type_at d j)

      -- the declaration that the name denotes
      record IsDenoted (d : ℕ) : Type 0 where
        it : Declaration
        place : index_of seen None name ≡ Some d
        at : declaration_at seen d ≡ Some it
        may_be : may_mean start u.is_target it ≡ true
        a_type : is_type it.decl_kind ≡ true

      one_place : (p d : ℕ) → shape_at p ≡ shape_at d → p ≡ d
      one_place p d e = cc

      by_type : (p d : ℕ) (it : Declaration) (b : Bool) → is_type it.decl_kind ≡ b → index_of seen None name ≡ Some p → declaration_at seen p ≡ Some it → may_mean start u.is_target it ≡ true → shape_or_unknown (if b then Some (shape_at p) else None) ≡ shape_at d → IsDenoted d
      by_type p d it false e place at may_be is_shape = absurd cc
      by_type p d it true e place at may_be is_shape =
          let same = one_place p d is_shape in
          record { it = it; place = place ∙ ap (λ (n : ℕ). Some n) same; at = ap (declaration_at seen) (sym same) ∙ at; may_be = may_be; a_type = e }

      by_place : (p d : ℕ) (it : Declaration) (b : Bool) → may_mean start u.is_target it ≡ b → index_of seen None name ≡ Some p → declaration_at seen p ≡ Some it → shape_or_unknown (if b then declared_type_shape i p it else None) ≡ shape_at d → IsDenoted d
      by_place p d it false e place at is_shape = absurd cc
      by_place p d it true e place at is_shape = by_type p d it (is_type it.decl_kind) refl place at e is_shape

      by_declaration : (p d : ℕ) (o : Option Declaration) → declaration_at seen p ≡ o → index_of seen None name ≡ Some p → shape_or_unknown (option_and_then (type_if_visible i p start u.is_target) o) ≡ shape_at d → IsDenoted d
      by_declaration p d None at place is_shape = absurd cc
      by_declaration p d (Some it) at place is_shape = by_place p d it (may_mean start u.is_target it) refl place at is_shape

      by_name : (d : ℕ) (o : Option ℕ) → index_of seen None name ≡ o → shape_or_unknown (option_and_then seen_at o) ≡ shape_at d → IsDenoted d
      by_name d None place is_shape = absurd cc
      by_name d (Some p) place is_shape = by_declaration p d (declaration_at seen p) refl place is_shape

      from_denoted : (d : ℕ) → IsDenoted d → MeansType bytes ts rows s u.number d
      from_denoted d h =
          let first = (found_rows bytes ts rows None name order h.it).0 (ap (option_and_then (declaration_at seen)) h.place ∙ h.at) in
          let is_sort : is_type (first.by).decl_kind ≡ true = ap (λ (x : Declaration). is_type x.decl_kind) (sym first.exact) ∙ h.a_type in
          let a_type = is_type_sort (first.by).decl_kind is_sort in
          let resolved = resolves first.row first.by first.declares a_type (ap (may_mean start u.is_target) (sym first.exact) ∙ h.may_be) in
          record {
            row = first.row;
            by = first.by;
            declares = first.declares;
            a_type = a_type;
            means = (is.scopes.meanings u.number (first.row).number).1 (record { use_row = u; is_use = is.is_use; of_use = refl; named_declaration = member first.row first.by; means = resolved; of_declared = refl });
            place = h.place;
            there = h.at ∙ ap (λ (x : Declaration). Some x) first.exact;
          }

      shape_is : (d : ℕ) (it : Declaration) → may_mean start u.is_target it ≡ true → is_type it.decl_kind ≡ true → shape_or_unknown (type_if_visible i d start u.is_target it) ≡ shape_at d
      shape_is d it may_be a_type = rw (may_be, a_type) refl

      to_shape : (d : ℕ) → MeansType bytes ts rows s u.number d → resolve_imported_name w i start u.is_target (Simple name) ≡ shape_at d
      to_shape d h =
          denoted ∙ ap (λ (o : Option ℕ). shape_or_unknown (option_and_then seen_at o)) h.place ∙ ap (λ (o : Option Declaration). shape_or_unknown (option_and_then (type_if_visible i d start u.is_target) o)) h.there
          ∙ shape_is d (declaration bytes ts rows.parts h.row h.by) (may h.row h.by h.declares h.a_type h.means) (ap is_type h.a_type)

      pub alone : (d : ℕ) → (resolve_imported_name w i start u.is_target (Simple name) ≡ shape_at d) ↔ MeansType bytes ts rows s u.number d
      alone d = (λ e. from_denoted d (by_name d (index_of seen None name) refl (sym denoted ∙ e)), to_shape d)

      alias_there : aliased_module_name w i name ≡ found_own rows.imports
      unfolding aliased_module_name
      alias_there = ap (option_and_then (λ (x : ModuleInterface). module_named x name)) there

      from_found : (own : List ℕ) → IsFoundItem rows.imports own → MeansAlias bytes ts rows s u.number own
      from_found own h = record { item = h.item; among = h.among; means = alias_means h.item h.among h.is_named; named = h.module_is }

      to_found : (own : List ℕ) → MeansAlias bytes ts rows s u.number own → found_own rows.imports ≡ Some own
      to_found own h =
          let (e, number, resolved) = meant (h.item).alias h.means in
          let is_named : text (h.item).alias ≡ name = ap text (sym number) ∙ resolved_name e resolved in
          let (other, found) = some_found rows.imports h.item h.among is_named in
          let first = found_item rows.imports other found in
          let same : first.item ≡ h.item = one_item first.item h.item first.among h.among (first.is_named ∙ sym is_named) in
          found ∙ ap (λ (n : List ℕ). Some n) (sym first.module_is ∙ ap (λ (x : Import). text x.imported) same ∙ h.named)

      pub qualified : (own : List ℕ) → (aliased_module_name w i name ≡ Some own) ↔ MeansAlias bytes ts rows s u.number own
      qualified own = (λ e. from_found own (found_item rows.imports own (sym alias_there ∙ e)), λ h. alias_there ∙ to_found own h)
