-- An unresolved token is an identifier, and identifiers are valid UTF-8.
use Rattle.std.proofs.Common.{◌≡◌, ℕ, zero, suc, ◌+◌, ◌<◌, true, false, List, [], ◌∷◌, map, length, refl, sym, ◌∙◌, subst, arith, inl, inr}
use Rattle.std.specs.Prelude.{Contains}
use Rattle.std.specs.List.{enumerate_from, filter, filter_map}
use Rattle.std.specs.Str.{IsUtf8}
use Rattle.std.proofs.lemmas.Bool.{cases_Bool}
use Rattle.std.proofs.lemmas.List.Elements.{All-get_or}
use Rattle.texts.proofs.FieldNames as names
use Rattle.ob_scan.specs.declared.kind.Kind.{Kind}
use Rattle.ob_scan.specs.declared.kind.Kind.TheVariants as kinds
use Rattle.ob_scan.specs.declared.token.Token.{Token}
use Rattle.ob_scan.specs.Spelling.{Spells}
use Rattle.ob_scan.specs.Tokens.{is_name}
use Rattle.ob_scan.proofs.NameTokens.{IsNamed, spelled_names}
use Rattle.ob_scan.specs.Texts.{no_token, text_at, token_at}
use Rattle.ob_scope.proofs.Names.{same_test}
use Rattle.ob_view.specs.declared.target.Reference.{Reference}
use Rattle.ob_targets.specs.Refers.{identifiers, is_identifier, identifier_number, unresolved}
use Rattle.ob_view.specs.TargetKinds.{is_unresolved}
use Rattle.digraph.proofs.Members.{first_or_later, from_filter, from_map, in_map, no_member}

-- an identifier by its kind
ident_kind : (k : Kind) → is_identifier k ≡ true → k ≡ kinds.Ident
ident_kind kinds.Ident e = refl
ident_kind _ e = absurd (let f : false ≡ true = e in cc)

-- the numbers of identifiers are those of tokens of their kind
ident_from : (ts : List Token) (a k : ℕ) → Contains (filter_map identifier_number (enumerate_from a ts)) k → (j : ℕ) × (j < length ts) × (k ≡ a + j) × ((token_at ts j).kind ≡ kinds.Ident)
ident_from [] a k h = no_member k h
ident_from (t ∷ ts) a k h = elim (cases_Bool (is_identifier t.kind)) [
  | inl is_one ↦
      let g : Contains (a ∷ filter_map identifier_number (enumerate_from (a + 1) ts)) k = rw is_one at h in
      elim (first_or_later a (filter_map identifier_number (enumerate_from (a + 1) ts)) k g) [
        | inl here ↦ (zero, omega arith, omega arith, ident_kind t.kind is_one)
        | inr later ↦ let r = ident_from ts (a + 1) k later in (suc r.0, omega arith, omega arith, r.3)
      ]
  | inr is_none ↦
      let g : Contains (filter_map identifier_number (enumerate_from (a + 1) ts)) k = rw is_none at h in
      let r = ident_from ts (a + 1) k g in
      (suc r.0, omega arith, omega arith, r.3)
]

-- names are valid UTF-8
name_is_text : (bytes : List ℕ) → is_name bytes ≡ true → IsUtf8 bytes
name_is_text bytes e = names.name_is_text bytes (sym (same_test bytes) ∙ e)

-- the text of an unresolved token is valid UTF-8
pub texts_of : (bytes : List ℕ) (ts : List Token) (refs : List Reference) → Spells bytes ts → map (λ (r : Reference). r.number) refs ≡ identifiers ts → (k : ℕ) → Contains (unresolved refs) k → IsUtf8 (text_at bytes ts k)
texts_of bytes ts refs spells same k has =
    let (r, among, is) = from_map (λ (r : Reference). r.number) (filter (λ (r : Reference). is_unresolved r.target) refs) k has in
    let there : Contains refs r = from_filter (λ (r : Reference). is_unresolved r.target) refs r among in
    let all : Contains (identifiers ts) k = subst (Contains (identifiers ts)) is (subst (λ (ks : List ℕ). Contains ks r.number) same (in_map (λ (r : Reference). r.number) refs r there)) in
    let (j, lt, at, kind) = ident_from ts 0 k all in
    let here : k ≡ j = omega arith in
    let named : is_name (text_at bytes ts j) ≡ true = All-get_or (IsNamed bytes) ts j no_token lt (spelled_names bytes ts spells) kind in
    name_is_text (text_at bytes ts k) (rw here named)
