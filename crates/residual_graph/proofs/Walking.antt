-- The walk back along the parents of the visits of a search.
use Rattle.std.proofs.Common.{◌≡◌, ◌≢◌, ℕ, zero, suc, ◌+◌, ◌≤◌, ◌<◌, Bool, true, false, List, [], ◌∷◌, ◌++◌, length, get_or, refl, sym, ap, ◌∙◌, subst, arith, reverse, inl, inr, ◌⊎◌, ◌-◌}
use Rattle.std.specs.Prelude.{All, AllPairs}
use Rattle.std.proofs.lemmas.Bool.{cases_eq}
use Rattle.std.proofs.lemmas.List.{reverse-append, get_or_push, get_or_append_left, length_push, get_or-reverse, length-reverse}
use Rattle.std.proofs.lemmas.List.Elements.{All-push}
use Rattle.std.proofs.lemmas.List.Quantifiers.{all_pairs_push}
use Rattle.residual_graph.specs.declared.arc.Arc.{Arc}
use Rattle.residual_graph.specs.declared.arc.ResidualArc.{ResidualArc}
use Rattle.residual_graph.specs.declared.found.Visit.{Visit}
use Rattle.residual_graph.specs.Graphs.{AreClosed, AreReached, Graph, HasResidual, IsAugmenting, HasArc, IsResidualWalk, Reaches, head, is_flagged, tail}
use Rattle.residual_graph.specs.Trees.{IsTree, no_visit}

-- two steps over one arc leave from one node, or each leaves from where the other comes to
ends : (arcs : List Arc) (k : ℕ) (f g : Bool) → (head arcs (record { arc = k; forward = f }) ≡ head arcs (record { arc = k; forward = g })) ⊎ (tail arcs (record { arc = k; forward = f }) ≡ head arcs (record { arc = k; forward = g }))
ends arcs k true true = inl refl
ends arcs k true false = inr refl
ends arcs k false true = inr refl
ends arcs k false false = inl refl

pub same_arc : (arcs : List Arc) (s t : ResidualArc) → s.arc ≡ t.arc → (head arcs s ≡ head arcs t) ⊎ (tail arcs s ≡ head arcs t)
same_arc arcs s t e =
    subst (λ k. (head arcs s ≡ head arcs (record { arc = k; forward = t.forward })) ⊎ (tail arcs s ≡ head arcs (record { arc = k; forward = t.forward }))) e
    (ends arcs s.arc s.forward t.forward)

-- the steps so far lead from the index to the end, and were found at later indices
pub record Walking (g : Graph) (visits : List Visit) (end at : ℕ) (back : List ResidualArc) : Type 0 where
  pub at_in : at < length visits
  pub leads : IsResidualWalk g.arcs (get_or visits at no_visit).node (reverse back) (get_or visits end no_visit).node
  pub known : All (HasArc g.arcs) back
  pub left : All (HasResidual g.arcs) back
  pub later : (n : ℕ) (d : ResidualArc) → n < length back → (q : ℕ) × (at < q) × (q < length visits) × ((get_or visits q no_visit).step ≡ get_or back n d)
  pub once : AllPairs (λ s t. s.arc ≢ t.arc) back

pub walking_start : (g : Graph) (visits : List Visit) (end : ℕ) → end < length visits → Walking g visits end end []
walking_start g visits end h = record {
  at_in = h;
  leads = refl;
  known = λ k d i. absurd (omega arith);
  left = λ k d i. absurd (omega arith);
  later = λ n d i. absurd (omega arith);
  once = λ i j d h k. absurd (omega arith);
}

module _ (g : Graph) (start : ℕ) (reached_flags : List Bool) (visits : List Visit) (tree : IsTree g start reached_flags visits) (end : ℕ) where
  pub walking_more : (at : ℕ) (back : List ResidualArc) → Walking g visits end at back → 0 < at →
      Walking g visits end (get_or visits at no_visit).parent (back ++ (get_or visits at no_visit).step ∷ [])
  walking_more at back w positive =
      let p = get_or visits at no_visit in
      let at_in = w.at_in in
      let f = tree.found at positive at_in in
      let less : p.parent < at = f.earlier in
      record {
        at_in = omega arith;
        leads =
            let grown : reverse (back ++ p.step ∷ []) ≡ p.step ∷ reverse back = reverse-append back (p.step ∷ []) in
            let rest = subst (λ v. IsResidualWalk g.arcs v (reverse back) (get_or visits end no_visit).node) (sym f.comes) w.leads in
            subst (λ v. IsResidualWalk g.arcs (get_or visits p.parent no_visit).node v (get_or visits end no_visit).node) (sym grown) (f.leaves, rest);
        known = All-push (HasArc g.arcs) back p.step w.known f.known;
        left = All-push (HasResidual g.arcs) back p.step w.left f.left;
        later = λ n d h. elim (cases_eq n (length back)) [
          | inl e ↦ (at, less, at_in, sym (get_or_push back p.step d n (sym e)))
          | inr ne ↦
              let len : length (back ++ p.step ∷ []) ≡ length back + 1 = length_push back p.step in
              let (q, above, in_q, step_is) = w.later n d (omega arith) in
              (q, omega arith, in_q, step_is ∙ sym (get_or_append_left back (p.step ∷ []) d n (omega arith)))
        ];
        once = all_pairs_push (λ s r. s.arc ≢ r.arc) back p.step w.once (λ n d h e.
            let (q, above, in_q, step_is) = w.later n d h in
            let later = tree.found q (omega arith) in_q in
            let same : p.step.arc ≡ (get_or visits q no_visit).step.arc = sym (ap (λ (s : ResidualArc). s.arc) step_is ∙ e) in
            elim (same_arc g.arcs p.step (get_or visits q no_visit).step same) [
              | inl heads ↦ tree.once at q above in_q (sym f.comes ∙ heads ∙ later.comes)
              | inr turned ↦ tree.once p.parent q (omega arith) in_q (sym f.leaves ∙ turned ∙ later.comes)
            ]);
      }

  -- the walk back comes to the start
  walk : (fuel at : ℕ) (back : List ResidualArc) → at ≤ fuel → Walking g visits end at back → (all : List ResidualArc) × Walking g visits end 0 all
  walk fuel zero back h w = (back, w)
  walk zero (suc at) back h w = absurd (omega arith)
  walk (suc fuel) (suc at) back h w =
      let less = (tree.found (suc at) (omega arith) w.at_in).earlier in
      walk fuel (get_or visits (suc at) no_visit).parent (back ++ (get_or visits (suc at) no_visit).step ∷ []) (omega arith)
      (walking_more (suc at) back w (omega arith))

pub All-reverse : (P : ResidualArc → Type 0) (xs : List ResidualArc) → All P xs → All P (reverse xs)
All-reverse P xs all k d h =
    let len = length-reverse xs in
    let in_k : k < length xs = omega arith in
    subst P (sym (get_or-reverse xs k d in_k)) (all (length xs - 1 - k) d (omega arith))

pub AllPairs-reverse : (xs : List ResidualArc) → AllPairs (λ s t. s.arc ≢ t.arc) xs → AllPairs (λ s t. s.arc ≢ t.arc) (reverse xs)
AllPairs-reverse xs all i j d h in_j e =
    let len = length-reverse xs in
    let in_xs : j < length xs = omega arith in
    all (length xs - 1 - j) (length xs - 1 - i) d (omega arith) (omega arith)
    (ap (λ (s : ResidualArc). s.arc) (sym (get_or-reverse xs j d in_xs)) ∙ sym e ∙ ap (λ (s : ResidualArc). s.arc) (get_or-reverse xs i d (omega arith)))

pub walking_end : (g : Graph) (start : ℕ) (reached_flags : List Bool) (visits : List Visit) → IsTree g start reached_flags visits → (end : ℕ) (back : List ResidualArc) → Walking g visits end 0 back →
    IsAugmenting g.arcs start (reverse back) (get_or visits end no_visit).node
walking_end g start reached_flags visits tree end back w = record {
  is_path = record {
    leads = subst (λ v. IsResidualWalk g.arcs v (reverse back) (get_or visits end no_visit).node) tree.first w.leads;
    known = All-reverse (HasArc g.arcs) back w.known;
    once = AllPairs-reverse back w.once;
  };
  left = All-reverse (HasResidual g.arcs) back w.left;
}

All-rest : (P : ResidualArc → Type 0) (s : ResidualArc) (more : List ResidualArc) → All P (s ∷ more) → All P more
All-rest P s more all k d h = all (suc k) d (omega arith)

-- a property of the start that each step with residual capacity preserves holds at the end of the path
pub along : (P : ℕ → Type 0) (arcs : List Arc) → ((s : ResidualArc) → HasArc arcs s → HasResidual arcs s → P (tail arcs s) → P (head arcs s)) →
    (a : ℕ) (path : List ResidualArc) (b : ℕ) → IsResidualWalk arcs a path b → All (HasArc arcs) path → All (HasResidual arcs) path → P a → P b
along P arcs on a [] b e known left h = subst P e h
along P arcs on a (s ∷ more) b (e, rest) known left h =
    along P arcs on (head arcs s) more b rest (All-rest (HasArc arcs) s more known) (All-rest (HasResidual arcs) s more left)
    (on s (known 0 s (omega arith)) (left 0 s (omega arith)) (subst P (sym e) h))

-- the flagged nodes are those that augmenting paths lead to
pub reached : (g : Graph) (start : ℕ) (reached_flags : List Bool) (visits : List Visit) → IsTree g start reached_flags visits → AreClosed g.arcs reached_flags → AreReached g start reached_flags
reached g start reached_flags visits t closed =
    record {
      size = t.size;
      each = λ m. (
        λ h.
            let (p, in_places, at_m) = t.placed m h in
            let (back, w) = walk g start reached_flags visits t p p p [] (omega arith) (walking_start g visits p in_places) in
            let way = walking_end g start reached_flags visits t p back w in
            (subst (λ v. v < g.nodes) at_m (t.listed p in_places).0, (reverse back, subst (IsAugmenting g.arcs start (reverse back)) at_m way)),
        λ (in_m, (path, way)). along (λ n. is_flagged reached_flags n ≡ true) g.arcs closed start path m way.is_path.leads way.is_path.known way.left t.started,
      );
    }

-- a node reaches itself
pub reaches_itself : (arcs : List Arc) (a : ℕ) → Reaches arcs a a
reaches_itself arcs a = (
  [],
  record {
    is_path = record { leads = refl; known = λ k d h. absurd (omega arith); once = λ i j d h in_j. absurd (omega arith) };
    left = λ k d h. absurd (omega arith);
  },
)
