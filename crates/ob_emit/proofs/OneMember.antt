-- A module declares a name in one scope once.
use Rattle.std.proofs.Common.{◌≡◌, ℕ, zero, suc, ◌⊎◌, inl, inr, ◌==◌, List, [], ◌∷◌, Bool, true, false, cond, Option, Some, None, refl, sym, ap, ◌∙◌, subst, arith, eqb-true}
use Rattle.std.specs.Prelude.{slice_get, find, Contains}
use Rattle.std.specs.List.{cons_option, filter_map}
use Rattle.std.specs.Option.{option_map, option_and_then}
use Rattle.std.proofs.lemmas.Bool.{cases_lt}
use Rattle.std.proofs.lemmas.Option.{slice_get-get_or}
use Rattle.module_table.specs.declared.rows.Declared.{Declared}
use Rattle.module_table.specs.declared.rows.DeclGroup.{DeclGroup}
use Rattle.module_table.specs.declared.rows.Record.{Record as RecordRow}
use Rattle.scopes.specs.declared.members.Member.{Member}
use Rattle.scopes.specs.Members.{decl_group_at, declared_member, members_of, group_scope}
use Rattle.scopes.specs.Scope.{HasNoDuplicates}
use Rattle.ob_view.specs.World.{World, declared_at, decl_group_from, decl_group_of, owner_at, record_at}

pub in_head : {X : Type 0} (x : X) (xs : List X) → Contains (x ∷ xs) x
in_head x xs = (zero, omega arith, refl)

pub in_tail : {X : Type 0} (y : X) (xs : List X) (x : X) → Contains xs x → Contains (y ∷ xs) x
in_tail y xs x (k, l, e) = (suc k, omega arith, e)

head_or_tail : {X : Type 0} (y : X) (xs : List X) (x : X) → Contains (y ∷ xs) x → (y ≡ x) ⊎ Contains xs x
head_or_tail y xs x (zero, l, e) = inl e
head_or_tail y xs x (suc k, l, e) = inr (k, omega arith, e)

-- the element that is found is in the list and passes the test
pub record IsFoundBy {X : Type 0} (test : X → Bool) (xs : List X) (x : X) : Type 0 where
  pub among : Contains xs x
  pub passes : test x ≡ true

found_step : {X : Type 0} (test : X → Bool) (y : X) (ys : List X) (x : X) (b : Bool) → test y ≡ b → (find test ys ≡ Some x → IsFoundBy test ys x) →
    cond b (Some y) (find test ys) ≡ Some x → IsFoundBy test (y ∷ ys) x
found_step {X} test y ys x true t rest e =
    let f : Some y ≡ Some x = e in
    let is : y ≡ x = cc in
    record { among = subst (λ (v : X). Contains (y ∷ ys) v) is (in_head y ys); passes = ap test (sym is) ∙ t }
found_step test y ys x false t rest e = let h : IsFoundBy test ys x = rest e in record { among = in_tail y ys x h.among; passes = h.passes }

pub found : {X : Type 0} (test : X → Bool) (xs : List X) (x : X) → find test xs ≡ Some x → IsFoundBy test xs x
found test [] x e = absurd (let f : None ≡ Some x = e in cc)
found test (y ∷ ys) x e = found_step test y ys x (test y) refl (λ f. found test ys x f) e

-- the image of an element is among the images of all
stored_text : {X Y : Type 0} (h : X → Option Y) (x : X) (rest : List Y) (o : Option Y) (y : Y) → Contains rest y → Contains (cons_option o rest) y
stored_text h x rest None y c = c
stored_text h x rest (Some z) y c = in_tail z rest y c

made : {Y : Type 0} (rest : List Y) (o : Option Y) (y : Y) → o ≡ Some y → Contains (cons_option o rest) y
made rest o y e = rw e (in_head y rest)

pub mapped : {X Y : Type 0} (h : X → Option Y) (xs : List X) (x : X) (y : Y) → Contains xs x → h x ≡ Some y → Contains (filter_map h xs) y
mapped h [] x y (k, l, e) is = absurd (omega arith)
mapped h (z ∷ xs) x y c is = elim (head_or_tail z xs x c) [
  | inl same ↦ made (filter_map h xs) (h z) y (ap h same ∙ is)
  | inr later ↦ stored_text h z (filter_map h xs) (h z) y (mapped h xs x y later is)
]

declarer_is : (xs : List DeclGroup) (k : ℕ) → decl_group_at xs k ≡ find (λ (c : DeclGroup). c.first == k) xs
declarer_is [] k = refl
declarer_is (x ∷ xs) k = ap (λ (o : Option DeclGroup). cond (x.first == k) (Some x) o) (declarer_is xs k)

-- one name in one scope is declared by one member
pub member_once : (name : ℕ → List ℕ) (ds : List Member) (f g : Member) → HasNoDuplicates name ds → Contains ds f → Contains ds g → f.place ≡ g.place → name f.number ≡ name g.number → f.number ≡ g.number
member_once name ds f g once (i, l, a) (j, m, b) place named =
    let at_f : slice_get ds i ≡ Some f = slice_get-get_or ds i f l ∙ ap Some a in
    let at_g : slice_get ds j ≡ Some g = slice_get-get_or ds j g m ∙ ap Some b in
    elim (cases_lt i j) [
      | inl before ↦ absurd (once i j f g before at_f at_g (place, named))
      | inr not_before ↦ (elim (cases_lt j i) [
        | inl behind ↦ absurd (once j i g f behind at_g at_f (sym place, sym named))
        | inr not_behind ↦ (
            let same : i ≡ j = omega arith in
            let e : Some f ≡ Some g = sym at_f ∙ ap (slice_get ds) same ∙ at_g in
            let is : f ≡ g = cc in
            ap (λ (v : Member). v.number) is)
      ])
    ]

-- the member that a token declares
pub record DeclaresBy (w : World) (k : ℕ) (by : DeclGroup) : Type 0 where
  pub row : Declared
  pub number : row.number ≡ k
  pub among : Contains (members_of w.rows) (record { place = group_scope by; number = row.number; decl_kind = by.decl_kind })

pub declares : (w : World) (k : ℕ) (by : DeclGroup) → decl_group_of w k ≡ Some by → DeclaresBy w k by
unfolding decl_group_of decl_group_from declared_at
declares w k by e = by_row (find (λ (d : Declared). d.number == k) w.rows.declared) refl e
  where
    by_row : (o : Option Declared) → find (λ (d : Declared). d.number == k) w.rows.declared ≡ o →
        option_and_then (λ (d : Declared). find (λ (c : DeclGroup). c.first == d.declared_by) w.rows.decl_groups) o ≡ Some by → DeclaresBy w k by
    by_row None there f = absurd (let g : None ≡ Some by = f in cc)
    by_row (Some d) there f =
        let h : IsFoundBy (λ (x : Declared). x.number == k) w.rows.declared d = found (λ (x : Declared). x.number == k) w.rows.declared d there in
        let by_it : decl_group_at w.rows.decl_groups d.declared_by ≡ Some by = declarer_is w.rows.decl_groups d.declared_by ∙ f in
        record {
          row = d;
          number = eqb-true d.number k h.passes;
          among = mapped (λ (x : Declared). declared_member x (decl_group_at w.rows.decl_groups x.declared_by)) w.rows.declared d (record { place = group_scope by; number = d.number; decl_kind = by.decl_kind }) h.among
              (ap (declared_member d) by_it);
        }

-- the record of an owner
pub record Owns (w : World) (r o : ℕ) : Type 0 where
  pub row : RecordRow
  pub among : Contains w.rows.records row
  pub number : row.number ≡ r
  pub owner : row.owner ≡ o

pub owns : (w : World) (r o : ℕ) → owner_at w r ≡ Some o → Owns w r o
unfolding owner_at record_at
owns w r o e = by_row (find (λ (row : RecordRow). row.number == r) w.rows.records) refl e
  where
    by_row : (v : Option RecordRow) → find (λ (row : RecordRow). row.number == r) w.rows.records ≡ v → option_map (λ (row : RecordRow). row.owner) v ≡ Some o → Owns w r o
    by_row None there f = absurd (let g : None ≡ Some o = f in cc)
    by_row (Some x) there f =
        let h : IsFoundBy (λ (row : RecordRow). row.number == r) w.rows.records x = found (λ (row : RecordRow). row.number == r) w.rows.records x there in
        let g : Some x.owner ≡ Some o = f in
        record { row = x; among = h.among; number = eqb-true x.number r h.passes; owner = (let i : x.owner ≡ o = cc in i) }
