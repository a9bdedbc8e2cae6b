-- A search from a node over residual arcs with capacity.
use Rattle.std.proofs.Common.{◌≡◌, ℕ, ◌+◌, ◌≤◌, ◌<◌, Bool, true, false, cond, List, [], ◌∷◌, ◌++◌, length, get_or, set, replicate, refl, sym, ap, ◌∙◌, subst, arith, inl, inr, length-set}
use Rattle.std.specs.Prelude.{◌↔◌, Contains}
use Rattle.std.proofs.lemmas.Bool.{cases_Bool, cases_eq, both_ways}
use Rattle.std.proofs.lemmas.List.{get_or-replicate, get_or_default, get_or_push, get_or_append_left, length-replicate, length_push}
use Rattle.std.proofs.lemmas.List.Folds.{sum_by-replicate}
use Rattle.std.proofs.lemmas.List.Sums.{sum_by-set}
use Rattle.digraph.proofs.SpreadMarks.{mark_before, mark_here, mark_kept, start_alone, start_marked}
use Rattle.residual_graph.specs.declared.arc.ResidualArc.{ResidualArc}
use Rattle.residual_graph.specs.declared.found.Visit.{Visit}
use Rattle.residual_graph.specs.Graphs.{no_residual_arc, AreClosed, Graph, HasResidual, HasArc, head, is_flagged, tail}
use Rattle.residual_graph.specs.Trees.{IsTree, ExtendsSearch, Searching, no_visit}

-- a node more in the tree of a search
pub tree_more : (g : Graph) (start : ℕ) (reached_flags : List Bool) (visits : List Visit) (place : ℕ) (s : ResidualArc) → IsTree g start reached_flags visits → place < length visits → HasArc g.arcs s →
    tail g.arcs s ≡ (get_or visits place no_visit).node → head g.arcs s < g.nodes → ExtendsSearch g.arcs s reached_flags →
    IsTree g start (set reached_flags (head g.arcs s) true) (visits ++ (record { node = head g.arcs s; step = s; parent = place }) ∷ [])
tree_more g start reached_flags visits place s tree in_place known leaves in_to on =
    let to = head g.arcs s in
    let new : Visit = record { node = head g.arcs (s); step = s; parent = place } in
    let size = tree.size in
    let in_seen : to < length reached_flags = omega arith in
    let len : length (visits ++ new ∷ []) ≡ length visits + 1 = length_push visits new in
    let same : (p : ℕ) → p < length visits → get_or (visits ++ new ∷ []) p no_visit ≡ get_or visits p no_visit = λ p h. get_or_append_left visits (new ∷ []) no_visit p h in
    let last : (p : ℕ) → p ≡ length visits → get_or (visits ++ new ∷ []) p no_visit ≡ new = λ p e. get_or_push visits new no_visit p (sym e) in
    record {
      size = length-set reached_flags to true ∙ tree.size;
      first = ap (λ v. v.node) (same 0 (omega arith)) ∙ tree.first;
      found = λ p h in_p. elim (cases_eq p (length visits)) [
        | inl e ↦
            let p_is = last p e in
            let place_is = same place in_place in
            record {
              earlier = rw p_is (omega arith);
              known = rw p_is known;
              left = rw p_is on.0;
              leaves = rw p_is (leaves ∙ ap (λ v. v.node) (sym place_is));
              comes = rw p_is refl;
            }
        | inr ne ↦
            let in_old : p < length visits = omega arith in
            let p_is = same p in_old in
            let f = tree.found p h in_old in
            let earlier = f.earlier in
            let q_is = same (get_or visits p no_visit).parent (omega arith) in
            record {
              earlier = rw p_is f.earlier;
              known = rw p_is f.known;
              left = rw p_is f.left;
              leaves = rw p_is (f.leaves ∙ ap (λ v. v.node) (sym q_is));
              comes = rw p_is f.comes;
            }
      ];
      once = λ p q h in_q e. elim (cases_eq q (length visits)) [
        | inl at_end ↦
            let q_is = last q at_end in
            let p_is = same p (omega arith) in
            let node_is : (get_or visits p no_visit).node ≡ to = ap (λ v. v.node) (sym p_is) ∙ e ∙ ap (λ v. v.node) q_is in
            both_ways _ on.1 (subst (λ v. is_flagged reached_flags v ≡ true) node_is (tree.listed p (omega arith)).1)
        | inr ne ↦ tree.once p q h (omega arith) (ap (λ v. v.node) (sym (same p (omega arith))) ∙ e ∙ ap (λ v. v.node) (same q (omega arith)))
      ];
      listed = λ p h. elim (cases_eq p (length visits)) [
        | inl e ↦
            let p_is = last p e in
            rw p_is (in_to, mark_here reached_flags to in_seen)
        | inr ne ↦ let l = tree.listed p (omega arith) in rw (same p (omega arith)) (l.0, mark_kept reached_flags to _ in_seen l.1)
      ];
      placed = λ m h. elim (cases_eq m to) [
        | inl e ↦ (length visits, omega arith, ap (λ v. v.node) (last (length visits) refl) ∙ sym e)
        | inr ne ↦ let at_p = tree.placed m (mark_before reached_flags to m ne h) in (at_p.0, omega arith, ap (λ v. v.node) (same at_p.0 at_p.1) ∙ at_p.2)
      ];
      started = mark_kept reached_flags to start in_seen tree.started;
    }

module _ (g : Graph) (start : ℕ) (reached_flags : List Bool) (visits : List Visit) (place : ℕ) (group : List ResidualArc) (k : ℕ) (z : Searching g start reached_flags visits place group k) where
  pub searching_no : (ExtendsSearch g.arcs (get_or group k no_residual_arc) reached_flags → ⊥) → Searching g start reached_flags visits place group (k + 1)
  searching_no off = record {
    tree = z.tree;
    counted = z.counted;
    before = z.before;
    here = λ j h in_j left. elim (cases_eq j k) [
      | inl e ↦ elim (cases_Bool (is_flagged reached_flags (head g.arcs (get_or group k no_residual_arc)))) [
        | inl t ↦ subst (λ v. is_flagged reached_flags (head g.arcs (get_or group v no_residual_arc)) ≡ true) (sym e) t
        | inr f ↦ absurd (off (subst (λ v. HasResidual g.arcs (get_or group v no_residual_arc)) e left, f))
      ]
      | inr ne ↦ z.here j (omega arith) in_j left
    ];
  }

  -- the node that the step k leads to is flagged, and given the last index
  pub searching_yes : place < length visits → HasArc g.arcs (get_or group k no_residual_arc) → tail g.arcs (get_or group k no_residual_arc) ≡ (get_or visits place no_visit).node →
      head g.arcs (get_or group k no_residual_arc) < g.nodes → ExtendsSearch g.arcs (get_or group k no_residual_arc) reached_flags →
      Searching g start (set reached_flags (head g.arcs (get_or group k no_residual_arc)) true)
      (visits ++ (record { node = head g.arcs (get_or group k no_residual_arc); step = get_or group k no_residual_arc; parent = place }) ∷ []) place group (k + 1)
  searching_yes in_place known leaves in_to on =
      let s = get_or group k no_residual_arc in
      let to = head g.arcs s in
      let new : Visit = record { node = to; step = s; parent = place } in
      let size = z.tree.size in
      let in_seen : to < length reached_flags = omega arith in
      let len : length (visits ++ new ∷ []) ≡ length visits + 1 = length_push visits new in
      record {
        tree = tree_more g start reached_flags visits place s z.tree in_place known leaves in_to on;
        counted =
            let sum = sum_by-set (λ v. cond v 1 0) reached_flags to true false in_seen in
            let none : cond {A = ℕ} (get_or reached_flags to false) 1 0 ≡ 0 = ap (λ (v : Bool). cond {A = ℕ} v 1 0) on.1 in
            let counted = z.counted in
            omega arith;
        before = λ p s h in_p known at_p left.
            mark_kept reached_flags to _ in_seen (z.before p s h (omega arith) known (at_p ∙ ap (λ v. v.node) (get_or_append_left visits (new ∷ []) no_visit p (omega arith))) left);
        here = λ j h in_j left. elim (cases_eq j k) [
          | inl e ↦ subst (λ v. is_flagged (set reached_flags to true) (head g.arcs (get_or group v no_residual_arc)) ≡ true) (sym e) (mark_here reached_flags to in_seen)
          | inr ne ↦ mark_kept reached_flags to _ in_seen (z.here j (omega arith) in_j left)
        ];
      }

  -- the next index, where the group has all steps from the node at this one
  pub searching_next : ((s : ResidualArc) → Contains group s ↔ (HasArc g.arcs s × (tail g.arcs s ≡ (get_or visits place no_visit).node))) → length group ≤ k →
      Searching g start reached_flags visits (place + 1) [] 0
  searching_next steps all = record {
    tree = z.tree;
    counted = z.counted;
    before = λ p s h in_p known at_p left. elim (cases_eq p place) [
      | inl e ↦
          let (j, in_j, at_j) = (steps s).1 (known, at_p ∙ ap (λ v. (get_or visits v no_visit).node) e) in
          let s_is : get_or group j no_residual_arc ≡ s = get_or_default group j no_residual_arc s in_j ∙ at_j in
          subst (λ v. is_flagged reached_flags (head g.arcs v) ≡ true) s_is (z.here j (omega arith) in_j (subst (HasResidual g.arcs) (sym s_is) left))
      | inr ne ↦ z.before p s (omega arith) in_p known at_p left
    ];
    here = λ j h _. absurd (omega arith);
  }

  -- the flagged nodes that no step has been followed from stand at the index and after it
  pub searching_end : length visits ≤ place → AreClosed g.arcs reached_flags
  searching_end past s known left t =
      let (p, in_places, at_p) = z.tree.placed (tail g.arcs s) t in
      z.before p s (omega arith) in_places known (sym at_p) left

pub searching_at : (g : Graph) (start : ℕ) (reached_flags : List Bool) (visits : List Visit) (place : ℕ) (group : List ResidualArc) → Searching g start reached_flags visits place [] 0 →
    Searching g start reached_flags visits place group 0
searching_at g start reached_flags visits place group z = record {
  tree = z.tree;
  counted = z.counted;
  before = z.before;
  here = λ j h _. absurd (omega arith);
}

-- a search begins with the start alone
pub searching_start : (g : Graph) (start : ℕ) (step : ResidualArc) → start < g.nodes →
    Searching g start (set (replicate g.nodes false) start true) ((record { node = start; step = step; parent = 0 }) ∷ []) 0 [] 0
searching_start g start step low =
    let none : List Bool = replicate g.nodes false in
    let size : length none ≡ g.nodes = length-replicate g.nodes false in
    let within : start < length none = omega arith in
    let marked = start_marked start g.nodes low in
    record {
      tree = record {
        size = length-set none start true ∙ size;
        first = refl;
        found = λ p after in_p. absurd (omega arith);
        once = λ p q h in_q. absurd (omega arith);
        listed = λ p in_p. let e : p ≡ 0 = omega arith in rw e (low, marked);
        placed = λ m on. (0, omega arith, sym (start_alone start g.nodes m on));
        started = marked;
      };
      counted =
          let sum = sum_by-set (λ v. cond v 1 0) none start true false within in
          let before : cond {A = ℕ} (is_flagged none start) 1 0 ≡ 0 = ap (λ (v : Bool). cond {A = ℕ} v 1 0) (get_or-replicate g.nodes start false false low) in
          let all = sum_by-replicate (λ (v : Bool). cond {A = ℕ} v 1 0) g.nodes false in
          omega arith;
      before = λ p s h. absurd (omega arith);
      here = λ j h. absurd (omega arith);
    }
