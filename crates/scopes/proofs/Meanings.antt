-- A use means one declaration, and the first duplicates are one pair.
use Rattle.std.proofs.Common.{◌≡◌, ℕ, ◌<◌, ◌⊎◌, inl, inr, List, sym, ap, ◌∙◌, arith, Some, slice_get, Contains, subst}
use Rattle.std.proofs.lemmas.Bool.{cases_lt}
use Rattle.std.proofs.lemmas.Option.{slice_get-get_or}
use Rattle.module_table.specs.declared.rows.Block.{Block as BlockRow}
use Rattle.module_table.specs.declared.rows.Used.{Used}
use Rattle.scopes.specs.declared.members.Member.{Member}
use Rattle.scopes.specs.declared.members.Scope.TheVariants.{Block}
use Rattle.scopes.specs.Scope.{ResolvesTo, by_scope, as_target, AreDuplicates, IsFirstDuplicate, HasNoDuplicates}
use Rattle.module_table.proofs.Around.{around-both}

-- a member has an index in its list
pub record IsAt {X : Type 0} (xs : List X) (x : X) : Type 0 where
  pub place : ℕ
  pub there : slice_get xs place ≡ Some x

pub at_from_contains : {X : Type 0} (xs : List X) (x : X) → Contains xs x → IsAt xs x
at_from_contains xs x c = record { place = c.0; there = slice_get-get_or xs c.0 x c.1 ∙ ap Some c.2 }

-- two indexes are ordered or equal
pub order : (i j : ℕ) → (i < j) ⊎ ((i ≡ j) ⊎ (j < i))
order i j = elim (cases_lt i j) [
  | inl h ↦ inl h
  | inr h ↦ elim (cases_lt j i) [
    | inl k ↦ inr (inr k)
    | inr k ↦ inr (inl (omega arith))
  ]
]

pub same_at : {X : Type 0} (xs : List X) (i j : ℕ) (x y : X) → i ≡ j → slice_get xs i ≡ Some x → slice_get xs j ≡ Some y → x ≡ y
same_at xs i j x y e p q =
    let r : slice_get xs i ≡ Some y = subst (λ (n : ℕ). slice_get xs n ≡ Some y) (sym e) q in
    let s : Some x ≡ Some y = sym p ∙ r in
    cc

twice_back : (name : ℕ → List ℕ) (d e : Member) → AreDuplicates name d e → AreDuplicates name e d
twice_back name d e t = (sym t.0, sym t.1)

-- without duplicates, members of one name and scope are equal
pub member_once : (name : ℕ → List ℕ) (ds : List Member) (d e : Member) → HasNoDuplicates name ds → Contains ds d → Contains ds e → AreDuplicates name d e → d ≡ e
member_once name ds d e none c k t = go (at_from_contains ds d c) (at_from_contains ds e k)
  where
    go : IsAt ds d → IsAt ds e → d ≡ e
    go p q = elim (order p.place q.place) [
      | inl h ↦ absurd (none p.place q.place d e h p.there q.there t)
      | inr (inl h) ↦ same_at ds p.place q.place d e h p.there q.there
      | inr (inr h) ↦ absurd (none q.place p.place e d h q.there p.there (twice_back name d e t))
    ]

pub means-member : (name : ℕ → List ℕ) (blocks : List BlockRow) (ds : List Member) (u : Used) (d : Member) → ResolvesTo name blocks ds u d → Contains ds d
means-member name blocks ds u d (by_scope r) = r.seen.declared
means-member name blocks ds u d (as_target t n l) = l.declared

-- the declarations that a use means have one name and one scope
means-twice : (name : ℕ → List ℕ) (blocks : List BlockRow) (ds : List Member) (u : Used) (d e : Member) → ResolvesTo name blocks ds u d → ResolvesTo name blocks ds u e → AreDuplicates name d e
means-twice name blocks ds u d e (by_scope r) (by_scope q) =
    let same : r.block ≡ q.block = around-both blocks r.block q.block (q.innermost r.block d r.seen) (r.innermost q.block e q.seen) in
    (r.seen.placed ∙ ap (λ (b : ℕ). Block b) same ∙ sym q.seen.placed, r.seen.named ∙ sym q.seen.named)
means-twice name blocks ds u d e (by_scope r) (as_target t n l) = absurd (n r.block d r.seen)
means-twice name blocks ds u d e (as_target t n l) (by_scope q) = absurd (n q.block e q.seen)
means-twice name blocks ds u d e (as_target t n l) (as_target s m k) = (l.placed ∙ sym k.placed, l.named ∙ sym k.named)

pub means_once : (name : ℕ → List ℕ) (blocks : List BlockRow) (ds : List Member) (u : Used) (d e : Member) → HasNoDuplicates name ds → ResolvesTo name blocks ds u d → ResolvesTo name blocks ds u e → d ≡ e
means_once name blocks ds u d e none m n =
    member_once name ds d e none (means-member name blocks ds u d m) (means-member name blocks ds u e n) (means-twice name blocks ds u d e m n)

-- a declaration with the name and scope of the one that a use means
pub means_as : (name : ℕ → List ℕ) (blocks : List BlockRow) (ds : List Member) (u : Used) (d e : Member) → d ≡ e → ResolvesTo name blocks ds u d → ResolvesTo name blocks ds u e
means_as name blocks ds u d e same m = subst (λ (x : Member). ResolvesTo name blocks ds u x) same m

-- without duplicates there are no first duplicates
pub no_first : (name : ℕ → List ℕ) (ds : List Member) (d e : Member) → HasNoDuplicates name ds → IsFirstDuplicate name ds d e → ⊥
no_first name ds d e none f = none f.first f.second d e f.order f.at_first f.at_second f.twice

-- two first pairs are equal
pub first_once : (name : ℕ → List ℕ) (ds : List Member) (d e f g : Member) → IsFirstDuplicate name ds d e → IsFirstDuplicate name ds f g → (d ≡ f) × (e ≡ g)
first_once name ds d e f g p q = elim (order p.second q.second) [
  | inl h ↦ absurd (q.none_before p.first p.second d e p.order h p.at_first p.at_second p.twice)
  | inr (inl h) ↦ (first h, last h)
  | inr (inr h) ↦ absurd (p.none_before q.first q.second f g q.order h q.at_first q.at_second q.twice)
]
  where
    last : p.second ≡ q.second → e ≡ g
    last h = same_at ds p.second q.second e g h p.at_second q.at_second

    -- both first members have the name and scope of the second
    both : p.second ≡ q.second → AreDuplicates name d f
    both h =
        (p.twice.0 ∙ ap (λ (x : Member). x.place) (last h) ∙ sym q.twice.0, p.twice.1 ∙ ap (λ (x : Member). name x.number) (last h) ∙ sym q.twice.1)

    first : p.second ≡ q.second → d ≡ f
    first h = elim (order p.first q.first) [
      | inl k ↦ absurd (q.none_before p.first q.first d f k q.order p.at_first q.at_first (both h))
      | inr (inl k) ↦ same_at ds p.first q.first d f k p.at_first q.at_first
      | inr (inr k) ↦ absurd (p.none_before q.first p.first f d k p.order q.at_first p.at_first (twice_back name d f (both h)))
    ]
