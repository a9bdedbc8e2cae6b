-- Flags of nodes.
use Rattle.std.proofs.Common.{◌≡◌, ◌∙◌, ◌+◌, ◌<◌, ◌⊎◌, ℕ, Bool, true, false, inl, inr, List, [], ◌∷◌, ◌++◌, length, get_or, set, take, sym, ap, subst, arith, get_or-set_other, get_or-set_same}
use Rattle.std.specs.Prelude.{◌↔◌, Contains}
use Rattle.std.proofs.lemmas.Bool.{cases_eq}
use Rattle.std.proofs.lemmas.List.{take_more}
use Rattle.std.proofs.lemmas.List.Elements.{Contains-append_cases, Contains-append_left, Contains-push, Contains-push_cases}
use Rattle.digraph.specs.declared.edge.Edge.{Edge}
use Rattle.digraph.specs.Marks.{marked}
use Rattle.digraph.proofs.Members.{one_member}
use Rattle.cut_net.specs.Lines.{edge_of}
use Rattle.cut_net.specs.Network.{Network, missing_item}
use Rattle.cut_rules.specs.declared.reading.Rules.{Rules}
use Rattle.cut_rules.specs.declared.rule.Rule.{Rule}
use Rattle.cut_rules.specs.Judged.{IsCountedBefore, IsFlagSet, IsMayOf, IsDenoted, IsForbiddenByMayRules}

-- ---- imports that count

module _ (net : Network) (allowed : List Bool) (count : ℕ) (edges : List Edge) (elements : (p : Edge) → Contains edges p ↔ IsCountedBefore net allowed count p) where
  pub counted_more : (edge : Edge) (new : List Edge) → marked allowed count ≡ false → edge ≡ edge_of (get_or net.imports count missing_item) → new ≡ edges ++ edge ∷ [] → (p : Edge) → Contains new p ↔ IsCountedBefore net allowed (count + 1) p
  counted_more edge new free is made p = rw made (
    λ has. elim (Contains-push_cases edges edge p has) [
      | inl old ↦ let (k, lt, free_there, e) = (elements p).0 old in (k, omega arith, free_there, e)
      | inr same ↦ (count, omega arith, free, sym is ∙ same)
    ],
    λ (k, lt, free_there, e). elim (cases_eq k count) [
      | inl here ↦ subst (Contains (edges ++ edge ∷ [])) (is ∙ ap (λ (j : ℕ). edge_of (get_or net.imports j missing_item)) (sym here) ∙ e) (Contains-push edges edge)
      | inr ne ↦ Contains-append_left edges (edge ∷ []) p ((elements p).1 (k, omega (arith, ne), free_there, e))
    ],
  )

  pub counted_same : marked allowed count ≡ true → (p : Edge) → Contains edges p ↔ IsCountedBefore net allowed (count + 1) p
  counted_same taken p = (
    λ has. let (k, lt, free_there, e) = (elements p).0 has in (k, omega arith, free_there, e),
    λ (k, lt, free_there, e). elim (cases_eq k count) [
      | inl here ↦ absurd (let f : true ≡ false = sym taken ∙ ap (marked allowed) (sym here) ∙ free_there in cc)
      | inr ne ↦ (elements p).1 (k, omega (arith, ne), free_there, e)
    ],
  )

-- ---- one member more

pub member_more : {X : Type 0} (xs : List X) (k : ℕ) (d : X) → k < length xs → (x : X) → Contains (take (k + 1) xs) x → Contains (take k xs) x ⊎ (get_or xs k d ≡ x)
member_more {X} xs k d lt x has = elim (Contains-append_cases (take k xs) (get_or xs k d ∷ []) x (subst (λ (l : List X). Contains l x) (take_more xs k d lt) has)) [
  | inl old ↦ inl old
  | inr new ↦ inr (one_member (get_or xs k d) x new)
]

pub more_member : {X : Type 0} (xs : List X) (k : ℕ) (d : X) → k < length xs → (x : X) → Contains (take k xs) x → Contains (take (k + 1) xs) x
more_member {X} xs k d lt x has = subst (λ (l : List X). Contains l x) (sym (take_more xs k d lt)) (Contains-append_left (take k xs) (get_or xs k d ∷ []) x has)

pub last_member : {X : Type 0} (xs : List X) (k : ℕ) (d : X) → k < length xs → Contains (take (k + 1) xs) (get_or xs k d)
last_member {X} xs k d lt = subst (λ (l : List X). Contains l (get_or xs k d)) (sym (take_more xs k d lt)) (Contains-push (take k xs) (get_or xs k d))

-- ---- nodes that are flagged

pub mark_next : (nodes : List ℕ) (k : ℕ) (d : ℕ) (value : Bool) (old cur : List Bool) → k < length nodes → get_or nodes k d < length cur → ((v : ℕ) → IsFlagSet (take k nodes) value old cur v) → (v : ℕ) → IsFlagSet (take (k + 1) nodes) value old (set cur (get_or nodes k d) value) v
mark_next nodes k d value old cur lt inside so_far v =
    let node = get_or nodes k d in
    elim (cases_eq v node) [
      | inl e ↦ inl (subst (Contains (take (k + 1) nodes)) (sym e) (last_member nodes k d lt), ap (marked (set cur node value)) e ∙ get_or-set_same cur node value false inside)
      | inr ne ↦
          let retained : marked (set cur node value) v ≡ marked cur v = get_or-set_other cur node v value false ne in
          elim (so_far v) [
            | inl h ↦ inl (more_member nodes k d lt v h.0, retained ∙ h.1)
            | inr h ↦ inr (λ has. elim (member_more nodes k d lt v has) [ inl was ↦ h.0 was | inr same ↦ ne (sym same) ], retained ∙ h.1)
          ]
    ]

-- the flags of the nodes are taken away
pub unmarked : (nodes : List ℕ) (old new : List Bool) (v : ℕ) → IsFlagSet nodes false old new v → (marked new v ≡ true) ↔ ((marked old v ≡ true) × (Contains nodes v → ⊥))
unmarked nodes old new v (inl h) = (λ e. absurd (let f : true ≡ false = sym e ∙ h.1 in cc), λ x. absurd (x.1 h.0))
unmarked nodes old new v (inr h) = (λ e. (sym h.1 ∙ e, h.0), λ x. h.1 ∙ x.0)

-- ---- outsiders

module _ (rules : Rules) (first n : ℕ) where
  pub outside_first : (own : List ℕ) (old new : List Bool) → marked old n ≡ true → IsFlagSet own false old new n → (Contains own n ↔ IsDenoted rules first n) → (marked new n ≡ true) ↔ IsForbiddenByMayRules rules [] first n
  outside_first own old new all is named =
      let un = unmarked own old new n is in (
        λ e. (λ of. (un.0 e).1 (named.1 of), λ r has may of. absurd (let (k, lt, at) = has in omega arith)),
        λ out. un.1 (all, λ has. out.0 (named.0 has)),
      )

  module _ (some : List Rule) (k : ℕ) (d : Rule) (lt : k < length some) (old : List Bool) (so_far : (marked old n ≡ true) ↔ IsForbiddenByMayRules rules (take k some) first n) where
    pub outside_more : (members : List ℕ) (new : List Bool) → IsMayOf (get_or some k d) first → IsFlagSet members false old new n → (Contains members n ↔ IsDenoted rules (get_or some k d).second n) → (marked new n ≡ true) ↔ IsForbiddenByMayRules rules (take (k + 1) some) first n
    outside_more members new may is named =
        let un = unmarked members old new n is in (
          λ e.
              let both = un.0 e in
              let was = so_far.0 both.0 in (
                was.0,
                λ r has r_may of. elim (member_more some k d lt r has) [
                  | inl old_one ↦ was.1 r old_one r_may of
                  | inr same ↦ both.1 (named.1 (subst (λ (s : Rule). IsDenoted rules s.second n) (sym same) of))
                ],
              ),
          λ out. un.1 (so_far.1 (out.0, λ r has r_may of. out.1 r (more_member some k d lt r has) r_may of), λ has. out.1 (get_or some k d) (last_member some k d lt) may (named.0 has)),
        )

    pub outside_same : (IsMayOf (get_or some k d) first → ⊥) → (marked old n ≡ true) ↔ IsForbiddenByMayRules rules (take (k + 1) some) first n
    outside_same not_may = (
      λ e. let was = so_far.0 e in (
        was.0,
        λ r has r_may of. elim (member_more some k d lt r has) [
          | inl old_one ↦ was.1 r old_one r_may of
          | inr same ↦ not_may (subst (λ (s : Rule). IsMayOf s first) (sym same) r_may)
        ],
      ),
      λ out. so_far.1 (out.0, λ r has r_may of. out.1 r (more_member some k d lt r has) r_may of),
    )
