-- The types that blocks declare, and the type that a block declares after a use.
use Rattle.std.proofs.Common.{◌≡◌, ℕ, ◌+◌, ◌<◌, ◌≤◌, inl, inr, Bool, true, false, List, [], ◌∷◌, length, get_or, cond, Option, None, Some, refl, sym, ap, ◌∙◌, subst, eqb-true, arith, ⊎_elim}
use Rattle.std.specs.Prelude.{nat_eq, slice_get, ◌&&◌}
use Rattle.std.specs.Option.{IsSome}
use Rattle.std.specs.Str.{bytes_eq}
use Rattle.std.proofs.lemmas.Bool.{cases_Bool, cases_lt, false≢true}
use Rattle.std.proofs.lemmas.Option.{slice_get_within, get_or_from_slice_get}
use Rattle.std.proofs.lemmas.Slice.Eq.{bytes_eq-Decides}
use Rattle.indexmap.specs.IndexMap.{get, IndexMap}
use Rattle.module_table.specs.declared.rows.DeclKind.TheVariants as decl_kinds
use Rattle.scopes.specs.declared.members.Member.{Member}
use Rattle.scopes.specs.declared.members.Scope.TheVariants.{Block}
use Rattle.text_hash.specs.declared.name.Name.{Name}
use Rattle.ob_scope.specs.BlockTypes.{type_key_eq, AreTypes, IsTypeAt, TypeKey}
use Rattle.ob_scope.specs.Lookups.{IsNamedIn, IsTypeAfter}
use Rattle.scopes.specs.Scope.{HasNoDuplicates}
use Rattle.ob_scope.specs.Visibility.{name_number, AreInterned}

-- a type that has the name of the token, in the block
pub record IsTypeOfName (name : ℕ → List ℕ) (members : List Member) (block token at : ℕ) : Type 0 where
  pub member : Member
  pub here : IsNamedIn name members block token (at, member)
  pub a_type : member.decl_kind ≡ decl_kinds.Type

-- texts of one number among the names are one
pub number_one : (names : List Name) (a b : List ℕ) → name_number names a ≡ name_number names b → name_number names a < length names → a ≡ b
number_one [] a b e l = absurd (omega arith)
number_one (y ∷ ys) a b e l = elim (cases_Bool (bytes_eq a y.bytes.now)) [
  | inl t ↦ elim (cases_Bool (bytes_eq b y.bytes.now)) [
    | inl u ↦ (bytes_eq-Decides a y.bytes.now).0 t ∙ sym ((bytes_eq-Decides b y.bytes.now).0 u)
    | inr u ↦ (let f = rw (t, u) at e in absurd (omega (arith, f)))
  ]
  | inr t ↦ elim (cases_Bool (bytes_eq b y.bytes.now)) [
    | inl u ↦ (let f = rw (t, u) at e in absurd (omega (arith, f)))
    | inr u ↦ (
        let f = rw (t, u) at e in
        let m = rw t at l in
        number_one ys a b (omega (arith, f)) (omega (arith, m)))
  ]
]

both_true : (a b : Bool) → a && b ≡ true → (a ≡ true) × (b ≡ true)
both_true true true e = (refl, refl)
both_true true false e = absurd (false≢true e)
both_true false b e = absurd (false≢true e)

nat_same : (a : ℕ) → nat_eq a a ≡ true
nat_same a = grind arith

and_true : (a b : Bool) → a ≡ true → b ≡ true → a && b ≡ true
and_true a b e f = rw (e, f) refl

key_same : (a : TypeKey) → type_key_eq a a ≡ true
key_same a = and_true (nat_eq a.0 a.0) (nat_eq a.1 a.1) (nat_same a.0) (nat_same a.1)

some_value : (x y : ℕ) → Some x ≡ Some y → x ≡ y
some_value x y e = cc

none_some : (x : ℕ) → None ≡ Some x → ⊥
none_some x e = cc

there_is : (o : Option ℕ) (x : ℕ) → o ≡ Some x → IsSome o
there_is o x e = rw e refl

none_there : (o : Option ℕ) → o ≡ None → IsSome o → ⊥
none_there None e h = false≢true h
none_there (Some x) e h = cc

block_one : (a b : ℕ) → Block a ≡ Block b → a ≡ b
block_one a b e = cc

-- an equal key
at_key : (members : List Member) (numbers : List ℕ) (i : ℕ) (key q : TypeKey) → IsTypeAt members numbers key i → type_key_eq key q ≡ true → IsTypeAt members numbers q i
at_key members numbers i key q is e =
    let both = both_true (nat_eq key.0 q.0) (nat_eq key.1 q.1) e in
    record { member = is.member; there = is.there; placed = is.placed ∙ ap (λ (b : ℕ). Block b) (eqb-true key.0 q.0 both.0); number = is.number ∙ eqb-true key.1 q.1 both.1; a_type = is.a_type }

one_key : (members : List Member) (numbers : List ℕ) (i : ℕ) (key q : TypeKey) → IsTypeAt members numbers key i → IsTypeAt members numbers q i → type_key_eq key q ≡ true
one_key members numbers i key q a b =
    let member : a.member ≡ b.member = (let e : Some a.member ≡ Some b.member = sym a.there ∙ b.there in cc) in
    let block : key.0 ≡ q.0 = block_one key.0 q.0 (sym a.placed ∙ ap (λ (m : Member). m.place) member ∙ b.placed) in
    let number : key.1 ≡ q.1 = sym a.number ∙ b.number in
    and_true (nat_eq key.0 q.0) (nat_eq key.1 q.1) (subst (λ (n : ℕ). nat_eq key.0 n ≡ true) block (nat_same key.0)) (subst (λ (n : ℕ). nat_eq key.1 n ≡ true) number (nat_same key.1))

cond_true : (b : Bool) (x y : Option ℕ) → b ≡ true → cond b x y ≡ x
cond_true b x y e = rw e refl

cond_false : (b : Bool) (x y : Option ℕ) → b ≡ false → cond b x y ≡ y
cond_false b x y e = rw e refl

module _ {S : Type 0} (members : List Member) (numbers : List ℕ) where
  pub types_none : (types : IndexMap TypeKey ℕ S) → ((key : TypeKey) → get type_key_eq types key ≡ None) → AreTypes members numbers 0 types
  types_none types empty = record {
    sound = λ key k e. absurd (none_some k (sym (empty key) ∙ e));
    all = λ key k l is. absurd (omega arith);
  }

  pub types_more : (i : ℕ) (key : TypeKey) (old new : IndexMap TypeKey ℕ S) → AreTypes members numbers i old → IsTypeAt members numbers key i
      → ((q : TypeKey) → get type_key_eq new q ≡ cond (type_key_eq key q) (Some i) (get type_key_eq old q)) → AreTypes members numbers (i + 1) new
  types_more i key old new before here more = record {
    sound = λ q k e. elim (cases_Bool (type_key_eq key q)) [
      | inl t ↦ (
          let f = more q ∙ cond_true (type_key_eq key q) (Some i) (get type_key_eq old q) t in
          let same : i ≡ k = some_value i k (sym f ∙ e) in
          subst (IsTypeAt members numbers q) same (at_key members numbers i key q here t))
      | inr t ↦ before.sound q k (sym (more q ∙ cond_false (type_key_eq key q) (Some i) (get type_key_eq old q) t) ∙ e)
    ];
    all = λ q k l is. elim (cases_Bool (type_key_eq key q)) [
      | inl t ↦ there_is (get type_key_eq new q) i (more q ∙ cond_true (type_key_eq key q) (Some i) (get type_key_eq old q) t)
      | inr t ↦ (
          let f = more q ∙ cond_false (type_key_eq key q) (Some i) (get type_key_eq old q) t in
          let less : k < i = ⊎_elim (λ (below : k < i). below)
          (λ (past : i ≤ k). (
          let same : k ≡ i = omega arith in
          absurd (false≢true (sym t ∙ one_key members numbers i key q here (subst (IsTypeAt members numbers q) same is)))))
          (cases_lt k i) in
          subst (λ (o : Option ℕ). IsSome o) (sym f) (before.all q k less is))
    ];
  }

  pub types_skip : (i : ℕ) (types : IndexMap TypeKey ℕ S) → AreTypes members numbers i types → ((key : TypeKey) → IsTypeAt members numbers key i → ⊥) → AreTypes members numbers (i + 1) types
  types_skip i types before none = record {
    sound = before.sound;
    all = λ q k l is. ⊎_elim (λ (below : k < i). before.all q k below is)
        (λ (past : i ≤ k). (
        let same : k ≡ i = omega arith in
        absurd (none q (subst (IsTypeAt members numbers q) same is))))
        (cases_lt k i);
  }

  module _ (name : ℕ → List ℕ) (names : List Name) (numbered : AreInterned name members names numbers) (types : IndexMap TypeKey ℕ S) (are : AreTypes members numbers (length members) types)
      (block token number : ℕ) where
    -- a type after a use has the name in the block
    type_of : (i : ℕ) → number ≡ name_number names (name token) → IsTypeAfter name members block token i → IsTypeAt members numbers (block, number) i
    type_of i is h = record {
      member = h.member;
      there = h.here.there;
      placed = h.here.placed;
      number = numbered.each i h.member h.here.there ∙ ap (name_number names) h.here.named ∙ sym is;
      a_type = h.a_type;
    }

    -- without a type of the name in the block there is none after the use
    pub after_undeclared : number ≡ name_number names (name token) → get type_key_eq types (block, number) ≡ None → (i : ℕ) → IsTypeAfter name members block token i → ⊥
    after_undeclared is none i h = none_there (get type_key_eq types (block, number)) none (are.all (block, number) i (slice_get_within members i h.member h.here.there) (type_of i is h))

    named_at : (at : ℕ) (h : IsTypeAt members numbers (block, number) at) → number ≡ name_number names (name token) → number < length names → name h.member.number ≡ name token
    named_at at h is within =
        let each = numbered.each at h.member h.there in
        number_one names (name h.member.number) (name token) (sym each ∙ h.number ∙ is) (let e = h.number in omega (arith, each, e, within))

    pub type_found : (at : ℕ) → number ≡ name_number names (name token) → number < length names → get type_key_eq types (block, number) ≡ Some at → IsTypeOfName name members block token at
    type_found at is within e =
        let h = are.sound (block, number) at e in
        record { member = h.member; here = record { there = h.there; placed = h.placed; named = named_at at h is within }; a_type = h.a_type }

module _ {name : ℕ → List ℕ} {members : List Member} {block token at : ℕ} (h : IsTypeOfName name members block token at) where
  pub type_within : at < length members
  type_within = slice_get_within members at h.member h.here.there

  read_is : (d : Member) → get_or members at d ≡ h.member
  read_is d = get_or_from_slice_get members at h.member d h.here.there

  -- the type is declared after the use
  pub after_found : (d : Member) → token < (get_or members at d).number → IsTypeAfter name members block token at
  after_found d less = record { member = h.member; here = h.here; after = subst (λ (m : Member). token < m.number) (read_is d) less; a_type = h.a_type }

  -- the type is declared before the use
  pub after_before : HasNoDuplicates name members → (d : Member) → (get_or members at d).number ≤ token → (i : ℕ) → IsTypeAfter name members block token i → ⊥
  after_before once d past i g =
      let before : h.member.number ≤ token = subst (λ (m : Member). m.number ≤ token) (read_is d) past in
      let place : g.member.place ≡ h.member.place = g.here.placed ∙ sym h.here.placed in
      let named : name g.member.number ≡ name h.member.number = g.here.named ∙ sym h.here.named in
      ⊎_elim
      (λ (below : i < at). once i at g.member h.member below g.here.there h.here.there (place, named))
      (λ (above : at ≤ i).
      ⊎_elim
      (λ (below : at < i). once at i h.member g.member below h.here.there g.here.there (sym place, sym named))
      (λ (other : i ≤ at). (
      let one : i ≡ at = omega arith in
      let member : g.member ≡ h.member = (let f : Some g.member ≡ Some h.member = sym g.here.there ∙ ap (slice_get members) one ∙ h.here.there in cc) in
      let after = g.after in
      let number : g.member.number ≡ h.member.number = ap (λ (m : Member). m.number) member in
      omega (arith, after, number, before)))
      (cases_lt at i))
      (cases_lt i at)
