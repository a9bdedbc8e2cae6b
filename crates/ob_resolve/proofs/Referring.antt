-- What identifiers denote, one by one, and all of them in order.
use Rattle.std.proofs.Common.{◌≡◌, ℕ, ◌+◌, ◌<◌, ◌≤◌, List, [], ◌∷◌, ◌++◌, length, get_or, drop, map, Bool, true, false, cond, Option, Some, None, refl, sym, ap, ◌∙◌, subst}
use Rattle.std.specs.Prelude.{slice_get}
use Rattle.std.specs.List.{All, cons_option, filter_map, enumerate_from}
use Rattle.std.proofs.lemmas.List.{append-nil, drop_more}
use Rattle.std.proofs.lemmas.List.Elements.{All-nil, All-push}
use Rattle.std.proofs.lemmas.Option.{slice_get-get_or, slice_get_within, get_or_from_slice_get}
use Rattle.module_table.specs.declared.rows.End.{End}
use Rattle.module_table.specs.declared.rows.Step.{Step}
use Rattle.module_table.specs.declared.rows.Step.TheVariants as steps
use Rattle.module_table.specs.declared.rows.Used.{Used}
use Rattle.ob_scan.specs.declared.kind.Kind.{Kind}
use Rattle.ob_scan.specs.declared.kind.Kind.TheVariants as kinds
use Rattle.ob_scan.specs.declared.token.Token.{Token}
use Rattle.ob_view.specs.World.{World}
use Rattle.ob_targets.specs.declared.designator_type.DesignatorType.{DesignatorType}
use Rattle.ob_targets.specs.declared.syntax_position.SyntaxPosition.{SyntaxPosition}
use Rattle.ob_targets.specs.declared.syntax_position.SyntaxPosition.TheVariants as syntax_positions
use Rattle.ob_view.specs.declared.target.Target.{Target}
use Rattle.ob_view.specs.declared.target.Target.TheVariants as targets
use Rattle.ob_view.specs.declared.target.Reference.{Reference}
use Rattle.ob_targets.specs.SyntaxPosition.{syntax_position}
use Rattle.ob_targets.specs.Targets.{end_target, is_written, qualident_member_target, use_role, use_target}
use Rattle.ob_targets.specs.Steps.{IsTypeBefore, Selects}
use Rattle.ob_targets.specs.Refers.{identifiers, is_identifier, identifier_number, AreReferences, Refers, own_name, item, declaration, end, used, selected, second, nowhere}
use Rattle.ob_resolve.specs.declared.precomputed.Precomputed.{Precomputed}
use Rattle.ob_resolve.specs.Precomputed.{IsPrecomputed, IsReference}
use Rattle.ob_resolve.specs.Selected.{IsNamed, Names}
use Rattle.ob_resolve.proofs.WrittenNames.{drop_past}
use Rattle.ob_resolve.proofs.Placed.{placed, IsPlaced, SelectsAt}

-- an entry, by the index that is read
pub read_row : {X : Type 0} (xs ys : List X) (i : ℕ) (d : X) → xs ≡ ys → i < length ys → slice_get ys i ≡ Some (get_or xs i d)
read_row xs ys i d are l = rw are (slice_get-get_or ys i d l)

module _ (w : World) where
  -- the entry at the index of an identifier's position exists
  pub stands_placed : (k : ℕ) (s : SyntaxPosition) → syntax_position w.rows k ≡ s → IsPlaced w.rows k s
  stands_placed k s is = subst (IsPlaced w.rows k) is (placed w.rows k)

  pub stands_as : (f : Precomputed) (k : ℕ) (s t d : SyntaxPosition) → IsPrecomputed w f → k < length w.tokens → s ≡ get_or f.syntax_positions.items k d → s ≡ t → syntax_position w.rows k ≡ t
  stands_as f k s t d found l read is = sym (get_or_from_slice_get f.syntax_positions.items k (syntax_position w.rows k) d (found.syntax_positions k l)) ∙ sym read ∙ is

  pub written_as : (f : Precomputed) (k : ℕ) (b d : Bool) → IsPrecomputed w f → k < length w.tokens → b ≡ get_or f.written.items k d → b ≡ is_written w.rows k
  written_as f k b d found l read = read ∙ get_or_from_slice_get f.written.items k (is_written w.rows k) d (found.written k l)

  pub own_refers : (k : ℕ) → syntax_position w.rows k ≡ syntax_positions.OwnName → IsReference w k (record { number = k; target = targets.Own; role = 1 })
  own_refers k is = record { number = refl; refers = own_name is }

  pub item_refers : (k at : ℕ) (t : Target) → syntax_position w.rows k ≡ syntax_positions.Item at → t ≡ targets.«Module» at → IsReference w k (record { number = k; target = t; role = 2 })
  item_refers k at t is made = rw made (record { number = refl; refers = item is })

  pub declaration_refers : (k at : ℕ) → syntax_position w.rows k ≡ syntax_positions.Declaration at → IsReference w k (record { number = k; target = targets.Declared k; role = 1 })
  declaration_refers k at is = record { number = refl; refers = declaration is }

  pub nowhere_refers : (k : ℕ) → syntax_position w.rows k ≡ syntax_positions.Nowhere → IsReference w k (record { number = k; target = targets.Unresolved; role = 0 })
  nowhere_refers k is = record { number = refl; refers = nowhere is }

  pub end_refers : (k at : ℕ) (e : End) (t : Target) → syntax_position w.rows k ≡ syntax_positions.End at → slice_get w.rows.ends at ≡ Some e → t ≡ end_target e.of →
      IsReference w k (record { number = k; target = t; role = 0 })
  end_refers k at e t is there made = rw made (record { number = refl; refers = end is there })

  pub use_refers : (k at : ℕ) (t : Target) (b : Bool) (r : ℕ) → b ≡ is_written w.rows k → t ≡ use_target w k → r ≡ use_role w t b → syntax_position w.rows k ≡ syntax_positions.Use at →
      IsReference w k (record { number = k; target = t; role = r })
  use_refers k at t b r written made role is = rw (role, made, written) (record { number = refl; refers = used is })

  pub second_refers : (k at : ℕ) (u : Used) (t : Target) (r : ℕ) → syntax_position w.rows k ≡ syntax_positions.QualidentMember at → slice_get w.rows.uses at ≡ Some u →
      t ≡ qualident_member_target w k (use_target w u.number) → r ≡ use_role w t false → IsReference w k (record { number = k; target = t; role = r })
  second_refers k at u t r is there made role = rw (role, made) (record { number = refl; refers = second is there })

  -- what the name of a selector denotes
  record NamedAt (k at : ℕ) (t : Target) : Type 0 where
    before : DesignatorType
    is_type_before : IsTypeBefore w at before
    selects : Selects w before k t

  named_at : (k at : ℕ) (s : Step) (t : Target) → s ≡ steps.Field k → IsNamed w at s t → NamedAt k at t
  named_at k at s t is n = record { before = n.before; is_type_before = n.is_type_before; selects = subst (λ (v : Step). Names w n.before v t) is n.names }

  selected_named : (f : Precomputed) (k at : ℕ) (d : Target) → IsPrecomputed w f → SelectsAt w.rows k at → NamedAt k at (get_or f.selected.items at d)
  selected_named f k at d found s =
      let within : at < length w.rows.selectors = slice_get_within w.rows.selectors at s.selector s.there in
      let room : at < length f.selected.items = subst (λ (n : ℕ). at < n) (sym found.selected.as_many) within in
      named_at k at s.selector.step (get_or f.selected.items at d) s.name
      (found.selected.each at s.selector (get_or f.selected.items at d) s.there (slice_get-get_or f.selected.items at d room))

  pub selected_within : (f : Precomputed) (k at : ℕ) → IsPrecomputed w f → syntax_position w.rows k ≡ syntax_positions.Selected at → at < length f.selected.items
  selected_within f k at found is =
      let s : SelectsAt w.rows k at = stands_placed k (syntax_positions.Selected at) is in
      subst (λ (n : ℕ). at < n) (sym found.selected.as_many) (slice_get_within w.rows.selectors at s.selector s.there)

  pub selected_refers : (f : Precomputed) (k at : ℕ) (t d : Target) (b : Bool) (r : ℕ) → IsPrecomputed w f → b ≡ is_written w.rows k → syntax_position w.rows k ≡ syntax_positions.Selected at →
      t ≡ get_or f.selected.items at d → r ≡ use_role w t b → IsReference w k (record { number = k; target = t; role = r })
  selected_refers f k at t d b r found written is read role =
      let n : NamedAt k at (get_or f.selected.items at d) = selected_named f k at d found (stands_placed k (syntax_positions.Selected at) is) in
      rw (role, read, written) (record { number = refl; refers = selected is n.is_type_before n.selects })

---- all identifiers

pub not_identifier : (k : Kind) → (k ≡ kinds.Ident → ⊥) → false ≡ is_identifier k
not_identifier kinds.Ident other = absurd (other refl)
not_identifier _ other = refl

-- the numbers of the identifiers from this index on
abbrev pub numbers_from : ℕ → List Token → List ℕ
numbers_from i ts = filter_map identifier_number (enumerate_from i (drop i ts))

module _ (w : World) where
  -- the identifiers before this index have been processed
  pub record AreGone (i : ℕ) (rs : List Reference) : Type 0 where
    pub numbers : map (λ (r : Reference). r.number) rs ++ numbers_from i w.tokens ≡ identifiers w.tokens
    pub each : All (λ (r : Reference). Refers w r.number r.target r.role) rs

  pub none_gone : (rs : List Reference) → rs ≡ [] → AreGone 0 rs
  none_gone rs is = rw is (record { numbers = refl; each = All-nil (λ (r : Reference). Refers w r.number r.target r.role) })

  numbers_step : (i : ℕ) (d : Token) → i < length w.tokens → numbers_from i w.tokens ≡ cons_option (identifier_number (i, get_or w.tokens i d)) (numbers_from (i + 1) w.tokens)
  numbers_step i d l = ap (λ (ts : List Token). filter_map identifier_number (enumerate_from i ts)) (drop_more w.tokens i d l)

  told : (i : ℕ) (t : Token) (b : Bool) → b ≡ is_identifier t.kind → identifier_number (i, t) ≡ cond b (Some i) None
  told i t b is = ap (λ (v : Bool). cond v (Some i) None) (sym is)

  identifier_gone : (i : ℕ) (d : Token) (b : Bool) (rs : List Reference) (r : Reference) → i < length w.tokens → b ≡ is_identifier (get_or w.tokens i d).kind → b ≡ true →
      IsReference w i r → AreGone i rs → AreGone (i + 1) (rs ++ r ∷ [])
  identifier_gone i d b rs r l test is made g =
      let here : numbers_from i w.tokens ≡ i ∷ numbers_from (i + 1) w.tokens =
      numbers_step i d l ∙ ap (λ (o : Option ℕ). cons_option o (numbers_from (i + 1) w.tokens)) (told i (get_or w.tokens i d) b test ∙ ap (λ (v : Bool). cond v (Some i) None) is) in
      record {
        numbers = numbers_pushed rs r i (numbers_from (i + 1) w.tokens) made.number ∙ ap (λ (ns : List ℕ). map (λ (x : Reference). x.number) rs ++ ns) (sym here) ∙ g.numbers;
        each = All-push (λ (x : Reference). Refers w x.number x.target x.role) rs r g.each (subst (λ (n : ℕ). Refers w n r.target r.role) (sym made.number) made.refers);
      }
    where
      numbers_pushed : (rs : List Reference) (r : Reference) (n : ℕ) (rest : List ℕ) → r.number ≡ n →
          map (λ (x : Reference). x.number) (rs ++ r ∷ []) ++ rest ≡ map (λ (x : Reference). x.number) rs ++ n ∷ rest
      numbers_pushed [] r n rest is = ap (λ (v : ℕ). v ∷ rest) is
      numbers_pushed (x ∷ xs) r n rest is = ap (λ (ns : List ℕ). x.number ∷ ns) (numbers_pushed xs r n rest is)

  other_gone : (i : ℕ) (d : Token) (b : Bool) (rs : List Reference) → i < length w.tokens → b ≡ is_identifier (get_or w.tokens i d).kind → b ≡ false → AreGone i rs → AreGone (i + 1) rs
  other_gone i d b rs l test is g =
      let here : numbers_from i w.tokens ≡ numbers_from (i + 1) w.tokens =
      numbers_step i d l ∙ ap (λ (o : Option ℕ). cons_option o (numbers_from (i + 1) w.tokens)) (told i (get_or w.tokens i d) b test ∙ ap (λ (v : Bool). cond v (Some i) None) is) in
      record { numbers = ap (λ (ns : List ℕ). map (λ (x : Reference). x.number) rs ++ ns) (sym here) ∙ g.numbers; each = g.each }

  -- the same for a loop over the tokens
  pub identifier_step : (ts : List Token) (i n : ℕ) (d : Token) (b : Bool) (rs out : List Reference) (r : Reference) → ts ≡ w.tokens → i < length ts → n ≡ i →
      b ≡ is_identifier (get_or ts i d).kind → b ≡ true → IsReference w n r → out ≡ rs ++ r ∷ [] → AreGone i rs → AreGone (i + 1) out
  identifier_step ts i n d b rs out r are l same_place test is made pushed g =
      let within : i < length w.tokens = subst (λ (us : List Token). i < length us) are l in
      let tested : b ≡ is_identifier (get_or w.tokens i d).kind = subst (λ (us : List Token). b ≡ is_identifier (get_or us i d).kind) are test in
      let here : IsReference w i r = subst (λ (m : ℕ). IsReference w m r) same_place made in
      rw pushed (identifier_gone i d b rs r within tested is here g)

  pub other_step : (ts : List Token) (i : ℕ) (d : Token) (b : Bool) (rs out : List Reference) → ts ≡ w.tokens → i < length ts →
      b ≡ is_identifier (get_or ts i d).kind → b ≡ false → out ≡ rs → AreGone i rs → AreGone (i + 1) out
  other_step ts i d b rs out are l test is left g =
      let within : i < length w.tokens = subst (λ (us : List Token). i < length us) are l in
      let tested : b ≡ is_identifier (get_or w.tokens i d).kind = subst (λ (us : List Token). b ≡ is_identifier (get_or us i d).kind) are test in
      rw left (other_gone i d b rs within tested is g)

  pub all_gone : (i : ℕ) (rs : List Reference) → length w.tokens ≤ i → AreGone i rs → AreReferences w rs
  all_gone i rs l g =
      let rest : numbers_from i w.tokens ≡ [] = ap (λ (ts : List Token). filter_map identifier_number (enumerate_from i ts)) (drop_past w.tokens i l) in
      record {
        numbers = sym (append-nil (map (λ (x : Reference). x.number) rs)) ∙ ap (λ (ns : List ℕ). map (λ (x : Reference). x.number) rs ++ ns) (sym rest) ∙ g.numbers;
        each = g.each;
      }
