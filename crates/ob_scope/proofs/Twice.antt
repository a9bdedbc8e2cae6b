-- Either members have no duplicates, or they have first duplicates.
use Rattle.std.proofs.Common.{◌≡◌, ℕ, zero, suc, ◌<◌, ◌≤◌, ◌⊎◌, inl, inr, List, length, Some, ap, arith, ⊎_elim}
use Rattle.std.specs.Prelude.{slice_get}
use Rattle.std.specs.Str.{bytes_eq}
use Rattle.std.proofs.lemmas.Bool.{cases_Bool, cases_eq, cases_lt, false≢true}
use Rattle.std.proofs.lemmas.Option.{slice_get_within}
use Rattle.std.proofs.lemmas.Slice.Eq.{bytes_eq-Decides}
use Rattle.scopes.specs.declared.members.Member.{Member}
use Rattle.scopes.specs.declared.members.Scope.{Scope}
use Rattle.scopes.specs.declared.members.Scope.TheVariants as locations
use Rattle.scopes.specs.Scope.{AreDuplicates, IsFirstDuplicate, HasNoDuplicates}
use Rattle.module_table.proofs.Elements.{slice_there, some_one}
use Rattle.std.proofs.Common.{sym, ◌∙◌, subst}

same_name : (xs ys : List ℕ) → (xs ≡ ys) ⊎ (xs ≡ ys → ⊥)
same_name xs ys = elim (cases_Bool (bytes_eq xs ys)) [
  | inl t ↦ inl ((bytes_eq-Decides xs ys).0 t)
  | inr f ↦ inr (λ e. false≢true (sym f ∙ (bytes_eq-Decides xs ys).1 e))
]

same_place : (p q : Scope) → (p ≡ q) ⊎ (p ≡ q → ⊥)
same_place (locations.Block b) (locations.Block c) = elim (cases_eq b c) [ inl e ↦ inl (ap locations.Block e) | inr ne ↦ inr (λ e. ne (let f : locations.Block b ≡ locations.Block c = e in cc)) ]
same_place (locations.Block b) (locations.Record r) = inr (λ e. absurd cc)
same_place (locations.Record r) (locations.Block b) = inr (λ e. absurd cc)
same_place (locations.Record r) (locations.Record s) = elim (cases_eq r s) [ inl e ↦ inl (ap locations.Record e) | inr ne ↦ inr (λ e. ne (let f : locations.Record r ≡ locations.Record s = e in cc)) ]

module _ (name : ℕ → List ℕ) (ds : List Member) where
  are_twice : (d e : Member) → AreDuplicates name d e ⊎ (AreDuplicates name d e → ⊥)
  are_twice d e = elim (same_place d.place e.place) [
    | inl p ↦ elim (same_name (name d.number) (name e.number)) [ inl n ↦ inl (p, n) | inr other ↦ inr (λ t. other t.1) ]
    | inr other ↦ inr (λ t. other t.0)
  ]

  -- no duplicates among the members before this index
  NoneBefore : ℕ → Type 0
  NoneBefore n = (i j : ℕ) (f g : Member) → i < j → j < n → slice_get ds i ≡ Some f → slice_get ds j ≡ Some g → AreDuplicates name f g → ⊥

  Pair : Type 0
  Pair = (d e : Member) × IsFirstDuplicate name ds d e

  -- a member without duplicates before this index
  Alone : Member → ℕ → Type 0
  Alone e k = (i : ℕ) (f : Member) → i < k → slice_get ds i ≡ Some f → AreDuplicates name f e → ⊥

  beside : (n : ℕ) (e : Member) → slice_get ds n ≡ Some e → NoneBefore n → (k : ℕ) → k ≤ n → Alone e k ⊎ Pair
  unfolding NoneBefore Pair Alone
  beside n e at none zero le = inl (λ i f l. absurd (omega arith))
  beside n e at none (suc k) le = elim (beside n e at none k (omega arith)) [
    | inr pair ↦ inr pair
    | inl alone ↦ (
        let within = slice_get_within ds n e at in
        let d = slice_there ds k (omega arith) in
        elim (are_twice d.0 e) [
          | inl twice ↦ inr (d.0, e, record { first = k; second = n; order = omega arith; at_first = d.1; at_second = at; twice = twice; none_before = λ i j f g l m. none i j f g l m })
          | inr other ↦ inl (λ i f l there t. ⊎_elim
              (λ (less : i < k). alone i f less there t)
              (λ (past : k ≤ i). (let same : i ≡ k = omega arith in let eq : d.0 ≡ f = some_one d.0 f (sym d.1 ∙ ap (slice_get ds) (sym same) ∙ there) in other (subst (λ (x : Member). AreDuplicates name x e) (sym eq) t)))
              (cases_lt i k))
        ])
  ]

  until : (n : ℕ) → n ≤ length ds → NoneBefore n ⊎ Pair
  unfolding NoneBefore Pair Alone
  until zero le = inl (λ i j f g l m. absurd (omega arith))
  until (suc n) le = elim (until n (omega arith)) [
    | inr pair ↦ inr pair
    | inl none ↦ (
        let e = slice_there ds n (omega arith) in
        elim (beside n e.0 e.1 none n (omega arith)) [
          | inr pair ↦ inr pair
          | inl alone ↦ inl (λ i j f g l m at_f at_g t. ⊎_elim
              (λ (less : j < n). none i j f g l less at_f at_g t)
              (λ (past : n ≤ j). (let same : j ≡ n = omega arith in let eq : e.0 ≡ g = some_one e.0 g (sym e.1 ∙ ap (slice_get ds) (sym same) ∙ at_g) in alone i f (omega arith) at_f (subst (λ (x : Member). AreDuplicates name f x) (sym eq) t)))
              (cases_lt j n))
        ])
  ]

  pub none_or_first : HasNoDuplicates name ds ⊎ ((d e : Member) × IsFirstDuplicate name ds d e)
  unfolding NoneBefore Pair
  none_or_first = elim (until (length ds) (omega arith)) [
    | inl none ↦ inl (λ i j f g l at_f at_g. none i j f g l (slice_get_within ds j g at_g) at_f at_g)
    | inr pair ↦ inr pair
  ]
