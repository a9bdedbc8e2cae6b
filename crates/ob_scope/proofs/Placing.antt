-- Members by their declaration groups, and by their tokens.
use Rattle.std.proofs.Common.{◌≡◌, ℕ, zero, suc, ◌+◌, ◌<◌, inl, inr, List, [], ◌∷◌, ◌++◌, length, take, get_or, Option, Some, None, filter_map, refl, sym, ap, ◌∙◌, arith}
use Rattle.std.specs.Prelude.{slice_get, slice_index, ◌==◌}
use Rattle.std.specs.Option.{option_to_list}
use Rattle.std.proofs.lemmas.List.{take_more}
use Rattle.std.proofs.lemmas.List.Elements.{filter_map-append}
use Rattle.std.proofs.lemmas.Option.{get_or_from_slice_get}
use Rattle.std.proofs.lemmas.Bool.{cases_Bool, cases_eq, eq-eqb, eqb-true}
use Rattle.module_table.specs.declared.rows.DeclGroup.{DeclGroup}
use Rattle.module_table.specs.declared.rows.Declared.{Declared}
use Rattle.scopes.specs.declared.members.Member.{Member}
use Rattle.module_table.specs.Order.{IsIncreasingBy, HasNoneBy, IsIndexBy}
use Rattle.ob_scope.specs.Found.{IsCountOf}
use Rattle.scopes.specs.Members.{decl_group_at, declared_member, declared_members}
use Rattle.ob_scope.proofs.Ascending.{ascending, ascends_by, picked}
use Rattle.module_table.proofs.Elements.{some_one}
use Rattle.ob_scope.proofs.Named.{one_of_number}

-- a strictly increasing list without its first element
ascend_tail : {X : Type 0} (n : X → ℕ) (x : X) (xs : List X) → IsIncreasingBy n (x ∷ xs) → IsIncreasingBy n xs
ascend_tail n x xs up i j y z l p q = up (suc i) (suc j) y z (omega arith) p q

-- the declaration group with this index is the one that is found
pub declarer_found : (ds : List DeclGroup) (i k : ℕ) (d : DeclGroup) → IsIncreasingBy (λ (x : DeclGroup). x.first) ds → slice_get ds i ≡ Some d → d.first ≡ k → decl_group_at ds k ≡ Some d
declarer_found [] i k d up there is = absurd (let e : None ≡ Some d = there in cc)
declarer_found (x ∷ ds) zero k d up there is =
    let same : x ≡ d = some_one x d there in
    let e : x.first ≡ k = ap (λ (y : DeclGroup). y.first) same ∙ is in
    rw (eq-eqb x.first k e) (ap Some same)
declarer_found (x ∷ ds) (suc i) k d up there is =
    let l : x.first < d.first = up 0 (suc i) x d (omega arith) refl there in
    elim (cases_Bool (x.first == k)) [
      | inl t ↦ absurd (let e : x.first ≡ k = eqb-true x.first k t in omega (arith, e, is, l))
      | inr f ↦ rw f (declarer_found ds i k d (ascend_tail (λ (y : DeclGroup). y.first) x ds up) there is)
    ]

pub declarer_none : (ds : List DeclGroup) (k : ℕ) → HasNoneBy (λ (x : DeclGroup). x.first) ds k → decl_group_at ds k ≡ None
declarer_none [] k none = refl
declarer_none (x ∷ ds) k none = elim (cases_Bool (x.first == k)) [
  | inl t ↦ absurd (none 0 x refl (eqb-true x.first k t))
  | inr f ↦ rw f (declarer_none ds k (λ i y p q. none (suc i) y p q))
]

-- a member has the number of its declared identifier
member_number : (d : Declared) (o : Option DeclGroup) (m : Member) → declared_member d o ≡ Some m → m.number ≡ d.number
member_number d None m e = absurd (let f : None ≡ Some m = e in cc)
member_number d (Some by) m e = ap (λ (x : Member). x.number) (sym (some_one _ m e))

-- the members are in token order
pub members_ascend : (by : List DeclGroup) (ds : List Declared) → IsIncreasingBy (λ (d : Declared). d.number) ds → IsIncreasingBy (λ (m : Member). m.number) (declared_members by ds)
members_ascend by ds up =
    ascending (λ (m : Member). m.number) 0 (declared_members by ds)
    (picked (λ (d : Declared). d.number) (λ (m : Member). m.number) (λ d. declared_member d (decl_group_at by d.declared_by)) (λ d m e. member_number d (decl_group_at by d.declared_by) m e) 0 ds
    (ascends_by (λ (d : Declared). d.number) 0 ds up (λ x e. omega arith)))

-- the index of a token among the members, if it is one
pub data Place_of (members : List Member) (number : ℕ) : Type 0 where
  At : (i : ℕ) (m : Member) → slice_get members i ≡ Some m → m.number ≡ number → Place_of members number
  Nowhere : ((i : ℕ) (m : Member) → slice_get members i ≡ Some m → m.number ≡ number → ⊥) → Place_of members number

pub place_of_number : (members : List Member) (k : ℕ) → Place_of members k
place_of_number [] k = Nowhere (λ i m e f. absurd (let g : None ≡ Some m = e in cc))
place_of_number (x ∷ ms) k = elim (cases_eq x.number k) [ inl e ↦ At 0 x refl e | inr ne ↦ behind ne (place_of_number ms k) ]
  where
    not_there : (x.number ≡ k → ⊥) → ((i : ℕ) (m : Member) → slice_get ms i ≡ Some m → m.number ≡ k → ⊥) → (i : ℕ) (m : Member) → slice_get (x ∷ ms) i ≡ Some m → m.number ≡ k → ⊥
    not_there ne none zero m e f = ne (ap (λ (y : Member). y.number) (some_one x m e) ∙ f)
    not_there ne none (suc i) m e f = none i m e f

    behind : (x.number ≡ k → ⊥) → Place_of ms k → Place_of (x ∷ ms) k
    behind ne (At i m e f) = At (suc i) m e f
    behind ne (Nowhere none) = Nowhere (not_there ne none)

---- the entry at the index that is found

pub declarer_read : (ds : List DeclGroup) (at k : ℕ) (d : DeclGroup) → IsIncreasingBy (λ (x : DeclGroup). x.first) ds → IsIndexBy (λ (x : DeclGroup). x.first) ds k at → Some (get_or ds at d) ≡ decl_group_at ds k
declarer_read ds at k d up f = ap Some (get_or_from_slice_get ds at f.element d f.there) ∙ sym (declarer_found ds at k f.element up f.there f.has)

-- one more identifier
pub members_more : (by : List DeclGroup) (ds : List Declared) (i : ℕ) (d : Declared) (o : Option Member) → i < length ds → o ≡ declared_member (get_or ds i d) (decl_group_at by (get_or ds i d).declared_by) →
    declared_members by (take (i + 1) ds) ≡ declared_members by (take i ds) ++ option_to_list o
members_more by ds i d o l is =
    let told : Declared → Option Member = λ (x : Declared). declared_member x (decl_group_at by x.declared_by) in
    let x = get_or ds i d in
    ap (filter_map told) (take_more ds i d l) ∙ filter_map-append told (take i ds) (x ∷ []) ∙ ap (λ (ms : List Member). declared_members by (take i ds) ++ ms) (last told x o is)
  where
    last : (told : Declared → Option Member) (x : Declared) (o : Option Member) → o ≡ told x → filter_map told (x ∷ []) ≡ option_to_list o
    last told x None e = rw (← e) refl
    last told x (Some m) e = rw (← e) refl

---- the count of a member

pub count_found : (members : List Member) (counts : List ℕ) (alias at : ℕ) → IsIncreasingBy (λ (m : Member). m.number) members → IsIndexBy (λ (m : Member). m.number) members alias at → IsCountOf members counts alias (slice_index counts at)
count_found members counts alias at up f = record {
  declared = λ i m there is. ap (slice_index counts) (one_of_number (λ n. []) members at i f.element m up f.there there (f.has ∙ sym is));
  undeclared = λ none. absurd (none at f.element f.there f.has);
}

pub count_none : (members : List Member) (counts : List ℕ) (alias : ℕ) → HasNoneBy (λ (m : Member). m.number) members alias → IsCountOf members counts alias 0
count_none members counts alias none = record { declared = λ i m there is. absurd (none i m there is); undeclared = λ h. refl }
