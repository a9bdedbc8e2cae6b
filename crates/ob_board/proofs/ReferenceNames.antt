-- The names that references denote are identifiers, by the tokens of the source.
use Rattle.std.proofs.Common.{◌≡◌, ℕ, zero, suc, ◌+◌, ◌-◌, List, [], ◌∷◌, map, take, drop, Option, Some, None, true, false, refl, sym, ap, subst, inl, inr, arith}
use Rattle.std.specs.Prelude.{Contains, slice_get}
use Rattle.std.specs.List.{enumerate_from}
use Rattle.std.proofs.lemmas.Bool.{cases_Bool}
use Rattle.std.proofs.lemmas.List.Elements.{All-contains}
use Rattle.std.proofs.lemmas.Option.{get_or_from_slice_get}
use Rattle.ob_scan.specs.declared.kind.Kind.{Kind}
use Rattle.ob_scan.specs.declared.kind.Kind.TheVariants as kinds
use Rattle.ob_scan.specs.declared.token.Token.{Token}
use Rattle.ob_scan.specs.Spelling.{Spells}
use Rattle.ob_scan.specs.Tokens.{is_name}
use Rattle.ob_scan.proofs.NameTokens.{spelled_names}
use Rattle.ob_scan.specs.Texts.{no_token, text_at, token_at}
use Rattle.module_table.proofs.Elements.{contains_of, contains_slice, slice_contains, some_one}
use Rattle.ob_view.specs.declared.target.Reference.{Reference}
use Rattle.ob_view.specs.declared.target.Target.{Target}
use Rattle.ob_view.specs.declared.target.Target.TheVariants as targets
use Rattle.ob_view.specs.World.{World, exported_index as exported_place, module_of_item, item_of, meaning, text}
use Rattle.ob_types.specs.declared.nodes.Field.{Field}
use Rattle.ob_types.specs.declared.nodes.Field.TheVariants as fields
use Rattle.ob_targets.specs.declared.designator_type.DesignatorType.{DesignatorType}
use Rattle.ob_targets.specs.Predeclared.{is_predeclared}
use Rattle.ob_targets.specs.Refers.{identifiers, is_identifier, identifier_number, AreReferences, Refers, own_name, item, declaration as declares, end, used, selected, second, nowhere}
use Rattle.ob_targets.specs.Steps.{Selects, exported, field, no_field, unknown}
use Rattle.ob_targets.specs.Targets.{declared_target, end_target, exported_target, field_target, qualident_member_target, use_target}
use Rattle.ob_emit.specs.Named.{ReferencesAreIdentifiers, IsName}
use Rattle.ob_emit.proofs.NamesGiven.{row_of}

is_ident : (k : Kind) → is_identifier k ≡ true → k ≡ kinds.Ident
is_ident kinds.Ident e = refl
is_ident _ e = absurd (let f : false ≡ true = e in cc)

numbered : (ts : List Token) (b i : ℕ) (p : ℕ × Token) → slice_get (enumerate_from b ts) i ≡ Some p → (p.0 ≡ b + i) × (slice_get ts i ≡ Some p.1)
numbered [] b i p e = absurd (let none : None ≡ Some p = e in cc)
numbered (t ∷ ts) b zero p e =
    let same : (b, t) ≡ p = some_one (b, t) p e in
    let first : b ≡ p.0 = ap (λ (q : ℕ × Token). q.0) same in
    (omega arith, ap (λ (q : ℕ × Token). Some q.1) same)
numbered (t ∷ ts) b (suc i) p e =
    let r = numbered ts (b + 1) i p e in
    let n : p.0 ≡ b + 1 + i = r.0 in
    (omega arith, r.1)

told_number : (p : ℕ × Token) (k : ℕ) → identifier_number p ≡ Some k → (p.0 ≡ k) × (p.1.kind ≡ kinds.Ident)
told_number (n, t) k e = elim (cases_Bool (is_identifier t.kind)) [
  | inl a ↦ (some_one n k (rw a at e), is_ident t.kind a)
  | inr b ↦ absurd (let none : None ≡ Some k = rw b at e in cc)
]

module _ (bytes : List ℕ) (ts : List Token) (spells : Spells bytes ts) where
  token_name : (k : ℕ) (t : Token) → slice_get ts k ≡ Some t → t.kind ≡ kinds.Ident → IsName (text_at bytes ts k)
  token_name k t at is =
      let there : token_at ts k ≡ t = get_or_from_slice_get ts k t no_token at in
      let n : IsName (take (t.end - t.start) (drop t.start bytes)) = All-contains (λ (u : Token). u.kind ≡ kinds.Ident → is_name (take (u.end - u.start) (drop u.start bytes)) ≡ true) ts t (spelled_names bytes ts spells) (contains_slice ts k t at) is in
      subst (λ (u : Token). IsName (take (u.end - u.start) (drop u.start bytes))) (sym there) n

  identifier_name : (k : ℕ) → Contains (identifiers ts) k → IsName (text_at bytes ts k)
  identifier_name k h =
      let at = slice_contains (identifiers ts) k h in
      let r = row_of identifier_number (enumerate_from 0 ts) k at.0 at.1 in
      let n = numbered ts 0 r.place r.row r.at in
      let t = told_number r.row k r.tells in
      let same : r.place ≡ k = (let a : r.row.0 ≡ 0 + r.place = n.0 in let b : r.row.0 ≡ k = t.0 in omega arith) in
      token_name k r.row.1 (subst (λ (j : ℕ). slice_get ts j ≡ Some r.row.1) same n.1) t.1

-- a token that denotes a name of an external module has a valid name
module _ (w : World) (v n : ℕ) where
  export_named : (at k : ℕ) (o : Option ℕ) → module_of_item w at ≡ o → exported_target w at k ≡ targets.External v n → k ≡ n
  export_named at k None e f = (let g : targets.External at k ≡ targets.External v n = rw (e, exported_target) at f in cc)
  export_named at k (Some i) e f = by_place (exported_place w i (text w k)) refl (rw (e, exported_target) at f)
    where
      by_place : (o : Option ℕ) → exported_place w i (text w k) ≡ o → (elim (exported_place w i (text w k)) [ None ↦ targets.Unresolved | Some d ↦ targets.Imported i d ]) ≡ targets.External v n → k ≡ n
      by_place None a b = absurd (let c : targets.Unresolved ≡ targets.External v n = rw a at b in cc)
      by_place (Some d) a b = absurd (let c : targets.Imported i d ≡ targets.External v n = rw a at b in cc)

  declared_not : (d : ℕ) (o : Option ℕ) → item_of w d ≡ o → declared_target w d ≡ targets.External v n → ⊥
  declared_not d None e f = absurd (let c : targets.Declared d ≡ targets.External v n = rw (e, declared_target) at f in cc)
  declared_not d (Some at) e f = absurd (let c : targets.«Module» at ≡ targets.External v n = rw (e, declared_target) at f in cc)

  used_not : (k : ℕ) (o : Option ℕ) → meaning w k ≡ o → use_target w k ≡ targets.External v n → ⊥
  used_not k (Some d) e f = declared_not d (item_of w d) refl (rw (e, use_target) at f)
  used_not k None e f = elim (cases_Bool (is_predeclared (text w k))) [
    | inl a ↦ absurd (let c : targets.Predeclared ≡ targets.External v n = rw (e, use_target, a) at f in cc)
    | inr b ↦ absurd (let c : targets.Unresolved ≡ targets.External v n = rw (e, use_target, b) at f in cc)
  ]

  second_named : (k : ℕ) (t : Target) → qualident_member_target w k t ≡ targets.External v n → k ≡ n
  second_named k (targets.«Module» at) e = export_named at k (module_of_item w at) refl e
  second_named k (targets.Declared d) e = absurd (let c : targets.Unresolved ≡ targets.External v n = e in cc)
  second_named k (targets.Imported i d) e = absurd (let c : targets.Unresolved ≡ targets.External v n = e in cc)
  second_named k (targets.External at m) e = absurd (let c : targets.Unresolved ≡ targets.External v n = e in cc)
  second_named k targets.Own e = absurd (let c : targets.Unresolved ≡ targets.External v n = e in cc)
  second_named k targets.Predeclared e = absurd (let c : targets.Unresolved ≡ targets.External v n = e in cc)
  second_named k targets.Unresolved e = absurd (let c : targets.Unresolved ≡ targets.External v n = e in cc)

  end_not : (o : Option ℕ) → end_target o ≡ targets.External v n → ⊥
  end_not None e = absurd (let c : targets.Own ≡ targets.External v n = e in cc)
  end_not (Some k) e = absurd (let c : targets.Declared k ≡ targets.External v n = e in cc)

  field_not : (f : Field) → field_target f ≡ targets.External v n → ⊥
  field_not (fields.Own k) e = absurd (let c : targets.Declared k ≡ targets.External v n = e in cc)
  field_not (fields.Other i d) e = absurd (let c : targets.Imported i d ≡ targets.External v n = e in cc)

  selected_named : (k : ℕ) {o : DesignatorType} {t : Target} → Selects w o k t → t ≡ targets.External v n → k ≡ n
  selected_named k (exported {at}) e = export_named at k (module_of_item w at) refl e
  selected_named k (field {f = f} finds) e = absurd (field_not f e)
  selected_named k (no_field none) e = absurd (let c : targets.Unresolved ≡ targets.External v n = e in cc)
  selected_named k unknown e = absurd (let c : targets.Unresolved ≡ targets.External v n = e in cc)

  external_named : (k : ℕ) {t : Target} {role : ℕ} → Refers w k t role → t ≡ targets.External v n → k ≡ n
  external_named k (own_name s) e = absurd (let c : targets.Own ≡ targets.External v n = e in cc)
  external_named k (item {at} s) e = absurd (let c : targets.«Module» at ≡ targets.External v n = e in cc)
  external_named k (declares s) e = absurd (let c : targets.Declared k ≡ targets.External v n = e in cc)
  external_named k (end {e = x} s there) e = absurd (end_not x.of e)
  external_named k (used s) e = absurd (used_not k (meaning w k) refl e)
  external_named k (selected s knows selects) e = selected_named k selects e
  external_named k (second {u = u} s there) e = second_named k (use_target w u.number) e
  external_named k (nowhere s) e = absurd (let c : targets.Unresolved ≡ targets.External v n = e in cc)

module _ (w : World) (refs : List Reference) (spells : Spells w.bytes w.tokens) (are : AreReferences w refs) where
  reference_name : (r : Reference) → Contains refs r → IsName (text w r.number)
  unfolding text
  reference_name r h =
      let at = slice_contains refs r h in
      let there : Contains (map (λ (x : Reference). x.number) refs) r.number = contains_of (λ (x : Reference). x.number) refs at.0 r at.1 in
      identifier_name w.bytes w.tokens spells r.number (subst (λ (ns : List ℕ). Contains ns r.number) are.numbers there)

  pub references_named : ReferencesAreIdentifiers w refs
  references_named = record {
    own = reference_name;
    external = λ r h i n e.
        let refers : Refers w r.number r.target r.role = All-contains (λ (x : Reference). Refers w x.number x.target x.role) refs r are.each h in
        subst (λ (k : ℕ). IsName (text w k)) (external_named w i n r.number refers e) (reference_name r h);
  }
