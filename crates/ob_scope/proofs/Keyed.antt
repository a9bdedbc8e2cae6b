-- Equal keys have equal scopes and names; a table with one more key.
use Rattle.std.proofs.Common.{◌≡◌, ℕ, ◌+◌, ◌<◌, ◌≤◌, Bool, true, false, List, [], ◌∷◌, ◌++◌, length, get_or, map, take, Some, refl, sym, ap, ◌∙◌, subst, arith, ⊎_elim}
use Rattle.std.specs.Prelude.{◌&&◌, slice_get}
use Rattle.std.specs.List.{list_any}
use Rattle.std.specs.Str.{bytes_eq}
use Rattle.std.proofs.lemmas.Bool.{eqb-true, cases_lt, false≢true}
use Rattle.std.proofs.lemmas.List.{map_more}
use Rattle.std.proofs.lemmas.List.Folds.{list_any_at}
use Rattle.std.proofs.lemmas.Option.{slice_get_within, slice_get-get_or, get_or_from_slice_get}
use Rattle.std.proofs.lemmas.Slice.Eq.{bytes_eq-Decides}
use Rattle.std.proofs.lemmas.Grind.{common_steps}
use Rattle.ob_scope.specs.contracts.member_index.MemberKeyPartialEq as keyed
use Rattle.scopes.specs.contracts.members.ScopePartialEq as placed
use Rattle.ob_scope.specs.declared.member_index.MemberKey.{MemberKey}
use Rattle.scopes.specs.declared.members.Member.{Member}
use Rattle.scopes.specs.declared.members.Scope.{Scope}
use Rattle.scopes.specs.declared.members.Scope.TheVariants as locations
use Rattle.scopes.specs.Scope.{AreDuplicates}
use Rattle.ob_scope.specs.MemberIndex.{ScopedName, scoped_name_of, scoped_name_in, AreFirstDuplicates, HasNoKey, IsIndex}
use Rattle.module_table.proofs.Elements.{of_slice, slice_of, some_one}

abbrev pub place_eq : Scope → Scope → Bool
place_eq = (placed.TheImpl.eq-value).it

abbrev pub key_eq : MemberKey → MemberKey → Bool
key_eq = (keyed.TheImpl.eq-value).it

place_one : (a b : Scope) → place_eq a b ≡ true → a ≡ b
place_one (locations.Block a) (locations.Block b) e = ap (λ (n : ℕ). locations.Block n) (eqb-true a b e)
place_one (locations.Block a) (locations.Record b) e = absurd (false≢true e)
place_one (locations.Record a) (locations.Block b) e = absurd (false≢true e)
place_one (locations.Record a) (locations.Record b) e = ap (λ (n : ℕ). locations.Record n) (eqb-true a b e)

eqb-same : (a : ℕ) → (placed.TheImpl.eq-value).it (locations.Block a) (locations.Block a) ≡ true
eqb-same a = grind (arith, common_steps)

place_same : (a : Scope) → place_eq a a ≡ true
place_same (locations.Block a) = eqb-same a
place_same (locations.Record a) = eqb-same a

and_left : (a b : Bool) → a && b ≡ true → a ≡ true
and_left true b e = refl
and_left false b e = e

and_right : (a b : Bool) → a && b ≡ true → b ≡ true
and_right true b e = e
and_right false b e = absurd (false≢true e)

pub entry_is : (p q : Scope) (m n : List ℕ) → p ≡ q → m ≡ n → (let e : ScopedName = record { place = p; name = m } in e) ≡ record { place = q; name = n }
entry_is p q m n e f = cc

-- equal keys have equal scopes and names
pub key_one : (a b : MemberKey) → key_eq a b ≡ true → scoped_name_in a ≡ scoped_name_in b
key_one a b e =
    entry_is a.place b.place a.name.bytes.now b.name.bytes.now
    (place_one a.place b.place (and_left (place_eq a.place b.place) (bytes_eq a.name.bytes.now b.name.bytes.now) e))
    ((bytes_eq-Decides a.name.bytes.now b.name.bytes.now).0 (and_right (place_eq a.place b.place) (bytes_eq a.name.bytes.now b.name.bytes.now) e))

both_true : (a b : Bool) → a ≡ true → b ≡ true → a && b ≡ true
both_true a b e f = rw (e, f) refl

-- keys with equal scopes and names are equal
pub key_same : (a b : MemberKey) → scoped_name_in a ≡ scoped_name_in b → key_eq a b ≡ true
key_same a b e =
    both_true (place_eq a.place b.place) (bytes_eq a.name.bytes.now b.name.bytes.now)
    (subst (λ (p : Scope). place_eq a.place p ≡ true) (ap (λ (x : ScopedName). x.place) e) (place_same a.place))
    ((bytes_eq-Decides a.name.bytes.now b.name.bytes.now).1 (ap (λ (x : ScopedName). x.name) e))

---- the entries of a table

-- a key that the table doesn't find has no entry
pub no_entry : (keys : List MemberKey) (k : MemberKey) → list_any (key_eq k) keys ≡ false → HasNoKey keys k.place k.name.bytes.now
no_entry keys k none i x there says =
    let here : key_eq k (get_or keys i k) ≡ true = key_same k (get_or keys i k) (sym says ∙ ap scoped_name_in (sym (get_or_from_slice_get keys i x k there))) in
    false≢true (sym none ∙ list_any_at (key_eq k) keys i k (slice_get_within keys i x there) here)

module _ (name : ℕ → List ℕ) (members : List Member) where
  -- a prefix of the members
  pub front_get : (i k : ℕ) (m : Member) → slice_get (take i members) k ≡ Some m → (k < i) × (slice_get members k ≡ Some m)
  front_get i k m e =
      let l : k < length (take i members) = slice_get_within (take i members) k m e in
      let both : (k < i) × (k < length members) = (grind (arith, common_steps), grind (arith, common_steps)) in
      let same : get_or (take i members) k m ≡ get_or members k m = grind (arith, common_steps) in
      (both.0, slice_get-get_or members k m both.1 ∙ ap Some (sym same ∙ get_or_from_slice_get (take i members) k m m e))

  pub get_front : (i k : ℕ) (m : Member) → k < i → slice_get members k ≡ Some m → slice_get (take i members) k ≡ Some m
  get_front i k m l e =
      let w : k < length members = slice_get_within members k m e in
      let inside : k < length (take i members) = grind (arith, common_steps) in
      let same : get_or (take i members) k m ≡ get_or members k m = grind (arith, common_steps) in
      slice_get-get_or (take i members) k m inside ∙ ap Some (same ∙ get_or_from_slice_get members k m m e)

  -- the key of an entry in the table
  pub key_of_row : (keys : List MemberKey) (prefix : List Member) (i : ℕ) (m : Member) → map scoped_name_in keys ≡ map (scoped_name_of name) prefix → slice_get prefix i ≡ Some m → (x : MemberKey) × (slice_get keys i ≡ Some x) × (scoped_name_in x ≡ scoped_name_of name m)
  key_of_row keys prefix i m e there = of_slice scoped_name_in keys i (scoped_name_of name m) (ap (λ (es : List ScopedName). slice_get es i) e ∙ slice_of (scoped_name_of name) prefix i m there)

  pub row_of_key : (keys : List MemberKey) (prefix : List Member) (i : ℕ) (x : MemberKey) → map scoped_name_in keys ≡ map (scoped_name_of name) prefix → slice_get keys i ≡ Some x → (m : Member) × (slice_get prefix i ≡ Some m) × (scoped_name_of name m ≡ scoped_name_in x)
  row_of_key keys prefix i x e there = of_slice (scoped_name_of name) prefix i (scoped_name_in x) (ap (λ (es : List ScopedName). slice_get es i) (sym e) ∙ slice_of scoped_name_in keys i x there)

  -- members with equal scopes and names are duplicates, and conversely
  pub twice_of : (m n : Member) → scoped_name_of name m ≡ scoped_name_of name n → AreDuplicates name m n
  twice_of m n e = (ap (λ (x : ScopedName). x.place) e, ap (λ (x : ScopedName). x.name) e)

  pub entries_of : (m n : Member) → AreDuplicates name m n → scoped_name_of name m ≡ scoped_name_of name n
  entries_of m n t = entry_is m.place n.place (name m.number) (name n.number) t.0 t.1

  -- the index with one member more
  pub index_more : (keys : List MemberKey) (i : ℕ) (k : MemberKey) (m : Member) → IsIndex name (take i members) keys → slice_get members i ≡ Some m → scoped_name_in k ≡ scoped_name_of name m
      → list_any (key_eq k) keys ≡ false → IsIndex name (take (i + 1) members) (keys ++ k ∷ [])
  index_more keys i k m t at says new =
      let l : i < length members = slice_get_within members i m at in
      let here : get_or members i m ≡ m = get_or_from_slice_get members i m m at in
      record {
        entries =
            Rattle.std.proofs.lemmas.List.map-append scoped_name_in keys (k ∷ [])
            ∙ ap (λ (es : List ScopedName). es ++ scoped_name_in k ∷ []) t.entries
            ∙ ap (λ (x : ScopedName). map (scoped_name_of name) (take i members) ++ x ∷ []) (says ∙ ap (scoped_name_of name) (sym here))
            ∙ sym (map_more (scoped_name_of name) members i m l);
        once = λ a b x y below p q same.
            (let u = front_get (i + 1) a x p in
            let v = front_get (i + 1) b y q in
            let b_below : b < i + 1 = v.0 in
            ⊎_elim
            (λ (old : b < i). t.once a b x y below (get_front i a x (omega arith) u.1) (get_front i b y old v.1) same)
            (λ (now : i ≤ b).
            let e : b ≡ i = omega arith in
            let last : y ≡ m = some_one y m (sym v.1 ∙ ap (slice_get members) e ∙ at) in
            let w = key_of_row keys (take i members) a x t.entries (get_front i a x (omega arith) u.1) in
            no_entry keys k new a w.0 w.1 (w.2 ∙ entries_of x y same ∙ ap (scoped_name_of name) last ∙ sym says))
            (cases_lt b i));
      }

  -- a member with the scope and name of an earlier one
  pub twice_at : (keys : List MemberKey) (i f : ℕ) (k x : MemberKey) (m : Member) → IsIndex name (take i members) keys → slice_get members i ≡ Some m → scoped_name_in k ≡ scoped_name_of name m
      → slice_get keys f ≡ Some x → key_eq k x ≡ true → AreFirstDuplicates name members f i
  twice_at keys i f k x m t at says there equal =
      let r = row_of_key keys (take i members) f x t.entries there in
      let u = front_get i f r.0 r.1 in
      record {
        first = r.0;
        second = m;
        at_first = u.1;
        at_second = at;
        twice = record {
          first = f;
          second = i;
          order = u.0;
          at_first = u.1;
          at_second = at;
          twice = twice_of r.0 m (r.2 ∙ sym (key_one k x equal) ∙ says);
          none_before = λ a b y z below last p q same. t.once a b y z below (get_front i a y (omega arith) p) (get_front i b z last q) same;
        };
      }
