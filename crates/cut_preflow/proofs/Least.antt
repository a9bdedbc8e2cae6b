-- When a relabel applies.
use Rattle.std.proofs.Common.{◌≡◌, ◌↔◌, ℕ, ◌+◌, ◌*◌, ◌<◌, ◌≤◌, inl, inr, Option, Some, None, true, IfSome, IsNone, List, length, get_or, refl, sym, ap, ◌∙◌, subst, arith}
use Rattle.std.specs.Prelude.{Contains}
use Rattle.std.proofs.lemmas.Bool.{cases_lt, cases_eq}
use Rattle.std.proofs.lemmas.List.{get_or_default}
use Rattle.std.proofs.lemmas.List.Elements.{Contains-get_or}
use Rattle.cut_preflow.specs.Preflow.{FlowNetwork, State, count, head, is_active, label_at, least_head, relabel_target, residual, smaller, tail}
use Rattle.cut_preflow.specs.Relabels.{IsRaised, LeadsTo}
use Rattle.cut_preflow.proofs.Arcs.{active_from, active_true, least_at, least_some, raisable_from, raised_some}

module _ (net : FlowNetwork) (s : State) (v : ℕ) where
  leads_at : (least : ℕ) → least_head net s v (2 * count net) ≡ Some least → LeadsTo net s v least
  leads_at least e =
      let w = least_at net s v (2 * count net) least e in
      record { arc = w.0; known = w.1; tail_is = w.2; room = w.3; head_label = w.4 }

  below : (least : ℕ) → least_head net s v (2 * count net) ≡ Some least → (other : ℕ) → LeadsTo net s v other → least ≤ other
  below least e other leads =
      let found = least_some net s v (2 * count net) leads.arc leads.known leads.tail_is leads.room in
      let same : least ≡ found.0 = cc (e, found.1) in
      omega (arith, found.2, leads.head_label)

  pub raised_is : (label : ℕ) → (relabel_target net s v ≡ Some label) ↔ IsRaised net s v label
  raised_is label = (
    λ e.
        let r = raisable_from net s v label e in
        record {
          active = active_true net s v r.active;
          least = r.least;
          leads = leads_at r.least r.is_least;
          is_least = below r.least r.is_least;
          none_lower = r.none_lower;
          label_is = r.label_is;
        },
    λ r.
        let leads = r.leads in
        let found = least_some net s v (2 * count net) leads.arc leads.known leads.tail_is leads.room in
        let le = below found.0 found.1 r.least leads in
        let ge = r.is_least found.0 (leads_at found.0 found.1) in
        let same : found.0 + 1 ≡ label = omega (arith, le, ge, r.label_is) in
        let up = raised_some net s v found.0 (active_from net s v r.active) found.1 (omega (arith, le, ge, r.none_lower)) in
        subst (λ l. relabel_target net s v ≡ Some l) same up,
  )

  raised_none : ((label : ℕ) → IsRaised net s v label → ⊥) → relabel_target net s v ≡ None
  raised_none never = go (relabel_target net s v) refl
    where
      go : (o : Option ℕ) → relabel_target net s v ≡ o → o ≡ None
      go None e = refl
      go (Some label) e = absurd (never label ((raised_is label).0 e))

  -- by the least label that its arcs with residual lead to
  pub raised_unled : ((label : ℕ) → LeadsTo net s v label → ⊥) → relabel_target net s v ≡ None
  raised_unled none = raised_none (λ label r. none r.least r.leads)

  pub raised_over_least : (least : ℕ) → is_active net s v ≡ true → LeadsTo net s v least → ((other : ℕ) → LeadsTo net s v other → least ≤ other) → label_at s v ≤ least → relabel_target net s v ≡ Some (least + 1)
  raised_over_least least on leads is_least up =
      (raised_is (least + 1)).1 (record { active = on; least = least; leads = leads; is_least = is_least; none_lower = up; label_is = refl })

  pub raised_not_over : (least : ℕ) → LeadsTo net s v least → least < label_at s v → relabel_target net s v ≡ None
  raised_not_over least leads lower = raised_none (λ label r. omega (arith, r.is_least least leads, r.none_lower))

-- the least label that the first of these arcs lead to, of those with residual capacity
pub record Lowest (net : FlowNetwork) (s : State) (arcs : List ℕ) (many : ℕ) (least : Option ℕ) : Type 0 where
  pub found : (l : ℕ) → least ≡ Some l → (j : ℕ) × (j < many) × (0 < residual net s (get_or arcs j 0)) × (label_at s (head net (get_or arcs j 0)) ≡ l)
  pub lowest : (j : ℕ) → j < many → 0 < residual net s (get_or arcs j 0) → (l : ℕ) × (least ≡ Some l) × (l ≤ label_at s (head net (get_or arcs j 0)))

module _ (net : FlowNetwork) (s : State) (arcs : List ℕ) where
  pub Lowest-none : Lowest net s arcs 0 None
  Lowest-none = record { found = λ l e. cc; lowest = λ j below room. absurd (omega arith) }

  -- one more arc, with no residual
  pub Lowest-skip : (many : ℕ) (least : Option ℕ) → Lowest net s arcs many least → residual net s (get_or arcs many 0) ≡ 0 → Lowest net s arcs (many + 1) least
  Lowest-skip many least is none = record {
    found = λ l e. let w = is.found l e in (w.0, (omega (arith, w.1)), w.2, w.3);
    lowest = λ j below room. elim (cases_eq j many) [
      | inl e ↦ (let same = ap (λ x. residual net s (get_or arcs x 0)) e in absurd (omega (arith, same, none, room)))
      | inr ne ↦ is.lowest j (omega arith) room
    ];
  }

  smaller_le : (least : Option ℕ) (x : ℕ) → smaller least x ≤ x
  smaller_le None x = omega arith
  smaller_le (Some y) x = omega arith

  -- and with some
  pub Lowest-more : (many : ℕ) (least : Option ℕ) (label : ℕ) → Lowest net s arcs many least → 0 < residual net s (get_or arcs many 0) → label_at s (head net (get_or arcs many 0)) ≡ label → Lowest net s arcs (many + 1) (Some (smaller least label))
  Lowest-more many least label is room at = record {
    found = λ l e. found least refl l (same_some e);
    lowest = λ j below more. elim (cases_eq j many) [
      | inl e ↦ (let same = ap (λ x. label_at s (head net (get_or arcs x 0))) e in (smaller least label, refl, (omega (arith, same, at, smaller_le least label))))
      | inr ne ↦ (let w = is.lowest j (omega arith) more in (smaller least label, refl, (omega (arith, w.2, below_old w.0 w.1))))
    ];
  }
    where
      same_some : {a b : ℕ} → Some a ≡ Some b → a ≡ b
      same_some e = cc

      Found : ℕ → Type 0
      Found l = (j : ℕ) × (j < many + 1) × (0 < residual net s (get_or arcs j 0)) × (label_at s (head net (get_or arcs j 0)) ≡ l)

      below_old : (l : ℕ) → least ≡ Some l → smaller least label ≤ l
      below_old l e = rw (e) (omega arith)

      found : (o : Option ℕ) → least ≡ o → (l : ℕ) → smaller o label ≡ l → Found l
      found None q l e = (many, (omega arith), room, (at ∙ e))
      found (Some y) q l e = elim (cases_lt y label) [
        | inl lt ↦ (let w = is.found y q in (w.0, (omega (arith, w.1)), w.2, (omega (arith, w.3))))
        | inr le ↦ (many, (omega arith), room, (omega arith))
      ]

  -- all arcs of a node
  module _ (v : ℕ) (of : (a : ℕ) → Contains arcs a ↔ ((a < 2 * count net) × (tail net a ≡ v))) where
    leads_found : (l : ℕ) → (j : ℕ) × (j < length arcs) × (0 < residual net s (get_or arcs j 0)) × (label_at s (head net (get_or arcs j 0)) ≡ l) → LeadsTo net s v l
    leads_found l w =
        let at = (of (get_or arcs w.0 0)).0 (Contains-get_or arcs w.0 0 w.1) in
        record { arc = get_or arcs w.0 0; known = at.0; tail_is = at.1; room = w.2; head_label = w.3 }

    leads_below : (least : Option ℕ) → Lowest net s arcs (length arcs) least → (other : ℕ) → LeadsTo net s v other → (l : ℕ) × (least ≡ Some l) × (l ≤ other)
    leads_below least is other leads =
        let listed = (of leads.arc).1 (leads.known, leads.tail_is) in
        let at : get_or arcs listed.0 0 ≡ leads.arc = sym (get_or_default arcs listed.0 leads.arc 0 listed.1) ∙ listed.2 in
        let w = is.lowest listed.0 listed.1 (subst (λ a. 0 < residual net s a) (sym at) leads.room) in
        let same = ap (λ a. label_at s (head net a)) at in
        (w.0, w.1, (omega (arith, w.2, same, leads.head_label)))

    pub Lowest-some : (least : Option ℕ) → Lowest net s arcs (length arcs) least → IfSome least (λ l. LeadsTo net s v l × ((other : ℕ) → LeadsTo net s v other → l ≤ other))
    Lowest-some None is = tt
    Lowest-some (Some l) is = (
      leads_found l (is.found l refl),
      λ other leads. let w = leads_below (Some l) is other leads in let same : l ≡ w.0 = cc (w.1) in omega (arith, w.2, same),
    )

    pub Lowest-no : (least : Option ℕ) → Lowest net s arcs (length arcs) least → IsNone least → (label : ℕ) → LeadsTo net s v label → ⊥
    Lowest-no None is none label leads = let w = leads_below None is label leads in cc (w.1)
    Lowest-no (Some l) is none label leads = cc
