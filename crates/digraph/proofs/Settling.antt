-- Candidates are removed one by one, until each candidate has an edge to a candidate.
use Rattle.std.proofs.Common.{◌≡◌, ℕ, zero, suc, ◌+◌, ◌*◌, ◌<◌, ◌≤◌, inl, inr, List, [], ◌∷◌, ◌++◌, length, refl, sym, ◌∙◌, ap, subst, arith, Bool, true, false, length-append}
use Rattle.std.specs.Prelude.{Contains, slice_index_or, slice_set, replicate}
use Rattle.std.proofs.lemmas.Bool.{cases_eq, cases_lt, false≢true}
use Rattle.std.proofs.lemmas.Bool.Decides.{nat_tests}
use Rattle.std.proofs.lemmas.List.{get_or_default, get_or-set_same, get_or-set_other, get_or-replicate, length-set}
use Rattle.std.proofs.lemmas.List.Elements.{Contains-get_or, Contains-append_left, Contains-append_right, Contains-push_cases}
use Rattle.digraph.specs.declared.edge.Edge.{Edge}
use Rattle.digraph.specs.Cycle.{EachLeadsToMember, IsSmallestSuccessor}
use Rattle.digraph.specs.Marks.{missing_item, edge_at, marked, mark_count, index_at, work_left, StartsFrom, ArePassed, LeadsToMarked, AreStarts, IsPruning}
use Rattle.digraph.specs.Incoming.{AreDependents}
use Rattle.digraph.specs.Edges.{AreBetween, IsAscending, Leads, comes_before}

-- the index of an edge between two nodes
pub record PlaceOf (edges : List Edge) (v w : ℕ) : Type 0 where
  pub place : ℕ
  pub within : place < length edges
  pub from : (edge_at edges place).from ≡ v
  pub to : (edge_at edges place).to ≡ w

pub place_of : (edges : List Edge) (v w : ℕ) → Leads edges v w → PlaceOf edges v w
place_of edges v w (k, l, e) =
    let edge : Edge = record { from = v; to = w } in
    let is : edge_at edges k ≡ edge = get_or_default edges k missing_item edge l ∙ e in
    record { place = k; within = l; from = ap (λ (j : Edge). j.from) is; to = ap (λ (j : Edge). j.to) is }

pub leads_at : (edges : List Edge) (k : ℕ) → k < length edges → Leads edges (edge_at edges k).from (edge_at edges k).to
leads_at edges k l = Contains-get_or edges k missing_item l

before_from : (i j : Edge) → comes_before i j ≡ true → i.from ≤ j.from
before_from i j e = grind (arith, nat_tests)

before_to : (i j : Edge) → comes_before i j ≡ true → i.from ≡ j.from → i.to < j.to
before_to i j e same = grind (arith, nat_tests)

pub from_ascends : (edges : List Edge) (j k : ℕ) → IsAscending edges → j ≤ k → k < length edges → (edge_at edges j).from ≤ (edge_at edges k).from
from_ascends edges j k up le l = elim (cases_eq j k) [
  | inl e ↦ rw e (omega arith)
  | inr ne ↦ before_from (edge_at edges j) (edge_at edges k) (up j k missing_item (omega arith) l)
]

pub to_ascends : (edges : List Edge) (j k : ℕ) → IsAscending edges → j < k → k < length edges → (edge_at edges j).from ≡ (edge_at edges k).from
    → (edge_at edges j).to < (edge_at edges k).to
to_ascends edges j k up lt l same = before_to (edge_at edges j) (edge_at edges k) (up j k missing_item lt l) same

-- from the index of another node's edge on, the node has no further edge
pub passed_beyond : (edges : List Edge) (marks : List Bool) (v start p : ℕ) → IsAscending edges → StartsFrom edges v start → start ≤ p → p < length edges
    → ((edge_at edges p).from ≡ v → ⊥) → ArePassed edges marks v start p → ArePassed edges marks v start (length edges)
passed_beyond edges marks v start p up starts le l other passed k low _ inside is = elim (cases_lt k p) [
  | inl before ↦ passed k low before inside is
  | inr after ↦
      let high : (edge_at edges p).from ≤ (edge_at edges k).from = from_ascends edges p k up after inside in
      let low' : v ≤ (edge_at edges p).from = starts p le l in
      absurd (other (omega arith))
]

-- one more edge before those that were inspected
pub starts_more : (edges : List Edge) (nodes : ℕ) (places : List ℕ) (p : ℕ) → IsAscending edges → p < length edges → ((v : ℕ) → v < nodes → StartsFrom edges v (index_at places v))
    → (v : ℕ) → v < nodes → StartsFrom edges v (index_at (slice_set places (edge_at edges p).from p) v)
starts_more edges nodes places p up l starts v in_nodes k low inside = elim (cases_eq v (edge_at edges p).from) [
  | inl e ↦ elim (cases_lt v (length places)) [
    | inl here ↦
        let at : index_at (slice_set places (edge_at edges p).from p) v ≡ p = rw (← e) (get_or-set_same places v p 0 here) in
        rw e (from_ascends edges p k up (omega arith) inside)
    | inr past ↦ starts v in_nodes k (past_places places v k past) inside
  ]
  | inr ne ↦
      let at : index_at (slice_set places (edge_at edges p).from p) v ≡ index_at places v = get_or-set_other places (edge_at edges p).from v p 0 ne in
      starts v in_nodes k (omega arith) inside
]
  where
    past_places : (places : List ℕ) (v k : ℕ) → length places ≤ v → index_at places v ≤ k
    past_places [] v k le = omega arith
    past_places (x ∷ xs) zero k le = absurd (omega arith)
    past_places (x ∷ xs) (suc v) k le = past_places xs v k (omega arith)

pub above_more : (edges : List Edge) (places : List ℕ) (p : ℕ) → p < length edges → (edge_at edges p).from < length places
    → ((k : ℕ) → p + 1 ≤ k → k < length edges → index_at places (edge_at edges k).from ≤ k)
    → (k : ℕ) → p ≤ k → k < length edges → index_at (slice_set places (edge_at edges p).from p) (edge_at edges k).from ≤ k
above_more edges places p l here above k le inside = elim (cases_eq (edge_at edges k).from (edge_at edges p).from) [
  | inl e ↦
      let at : index_at (slice_set places (edge_at edges p).from p) (edge_at edges k).from ≡ p = rw e (get_or-set_same places (edge_at edges p).from p 0 here) in
      omega arith
  | inr ne ↦
      let at : index_at (slice_set places (edge_at edges p).from p) (edge_at edges k).from ≡ index_at places (edge_at edges k).from
      = get_or-set_other places (edge_at edges p).from (edge_at edges k).from p 0 ne in
      elim (cases_eq k p) [
        | inl same ↦ absurd (ne (ap (λ (j : ℕ). (edge_at edges j).from) same))
        | inr differs ↦ let old : index_at places (edge_at edges k).from ≤ k = above k (omega arith) inside in omega arith
      ]
]

-- a set flag has an index within the list
pub marked_below : (marks : List Bool) (v : ℕ) → marked marks v ≡ true → v < length marks
marked_below [] v h = cc
marked_below (b ∷ bs) zero h = omega arith
marked_below (b ∷ bs) (suc v) h = let l : v < length bs = marked_below bs v h in omega arith

-- one flag fewer is set
pub mark_count-without : (marks : List Bool) (v : ℕ) → marked marks v ≡ true → mark_count (slice_set marks v false) + 1 ≡ mark_count marks
mark_count-without [] v h = cc
mark_count-without (true ∷ bs) zero h = refl
mark_count-without (false ∷ bs) zero h = cc
mark_count-without (true ∷ bs) (suc v) h = ap (λ n. n + 1) (mark_count-without bs v h)
mark_count-without (false ∷ bs) (suc v) h = mark_count-without bs v h

-- a node in a set each of whose members has an edge to a member has an edge
inside_nodes : (edges : List Edge) (nodes : ℕ) → AreBetween edges nodes → (t : ℕ → Bool) → EachLeadsToMember (Leads edges) t → (v : ℕ) → t v ≡ true → v < nodes
inside_nodes edges nodes between t each v h =
    let m = each v h in
    (between (record { from = v; to = m.0 }) m.1).0

pub settling_first : (edges : List Edge) (nodes : ℕ) (marks : List Bool) (places again : List ℕ) → AreBetween edges nodes → marks ≡ replicate nodes true → length marks ≡ nodes
    → AreStarts edges nodes places → ((v : ℕ) → v < nodes → Contains again v) → IsPruning edges nodes marks places again
settling_first edges nodes marks places again between full size starts all = record {
  size = size;
  placed = starts.size;
  starts = starts.starts;
  passed = λ v l k low below inside is. absurd (starts.passed v k below inside is);
  waits = λ v h. inl (all v (let l : v < length marks = marked_below marks v h in omega arith));
  greatest = λ t each v h. rw full (get_or-replicate nodes v true false (inside_nodes edges nodes between t each v h));
}

-- a node that is no candidate need not be inspected again
pub settling_unmarked : (edges : List Edge) (nodes : ℕ) (marks : List Bool) (places again : List ℕ) (v : ℕ) → IsPruning edges nodes marks places (again ++ v ∷ [])
    → marked marks v ≡ false → IsPruning edges nodes marks places again
settling_unmarked edges nodes marks places again v s off = record {
  size = s.size;
  placed = s.placed;
  starts = s.starts;
  passed = s.passed;
  waits = λ u h. elim (s.waits u h) [
    | inl listed ↦ elim (Contains-push_cases again v u listed) [
      | inl still ↦ inl still
      | inr same ↦ absurd (false≢true (sym off ∙ ap (marked marks) same ∙ h))
    ]
    | inr leads ↦ inr leads
  ];
  greatest = s.greatest;
}

-- a node with a later edge to a candidate need not be inspected again either
pub settling_placed : (edges : List Edge) (nodes : ℕ) (marks : List Bool) (places again : List ℕ) (v p : ℕ) → IsPruning edges nodes marks places (again ++ v ∷ [])
    → marked marks v ≡ true → index_at places v ≤ p → LeadsToMarked edges marks v p → ArePassed edges marks v (index_at places v) p
    → IsPruning edges nodes marks (slice_set places v p) again
settling_placed edges nodes marks places again v p s on later leads passed =
    let in_marks : v < length marks = marked_below marks v on in
    let in_nodes : v < nodes = (let e = s.size in omega arith) in
    let here : v < length places = (let e = s.placed in omega arith) in
    let own : index_at (slice_set places v p) v ≡ p = get_or-set_same places v p 0 here in
    let other : (u : ℕ) → (u ≡ v → ⊥) → index_at (slice_set places v p) u ≡ index_at places u = λ u ne. get_or-set_other places v u p 0 ne in
    record {
      size = s.size;
      placed = length-set places v p ∙ s.placed;
      starts = λ u l. elim (cases_eq u v) [
        | inl e ↦ rw (e, own) (λ k low inside. s.starts v in_nodes k (omega arith) inside)
        | inr ne ↦ rw (other u ne) (s.starts u l)
      ];
      passed = λ u l. elim (cases_eq u v) [
        | inl e ↦ rw (e, own) (λ k low below inside is. elim (cases_lt k (index_at places v)) [
          | inl before ↦ s.passed v in_nodes k low before inside is
          | inr after ↦ passed k after below inside is
        ])
        | inr ne ↦ rw (other u ne) (s.passed u l)
      ];
      waits = λ u h. elim (cases_eq u v) [
        | inl e ↦ inr (rw (e, own) leads)
        | inr ne ↦ elim (s.waits u h) [
          | inl listed ↦ elim (Contains-push_cases again v u listed) [
            | inl still ↦ inl still
            | inr same ↦ absurd (ne (sym same))
          ]
          | inr old ↦ inr (rw (other u ne) old)
        ]
      ];
      greatest = s.greatest;
    }

-- a node without an edge to a candidate is removed, and the nodes whose current edge leads to it are inspected again
pub settling_without : (edges : List Edge) (nodes : ℕ) (marks : List Bool) (places again row : List ℕ) (v : ℕ) → IsPruning edges nodes marks places (again ++ v ∷ [])
    → AreDependents edges places v row → marked marks v ≡ true → ArePassed edges marks v (index_at places v) (length edges)
    → IsPruning edges nodes (slice_set marks v false) places (again ++ row)
settling_without edges nodes marks places again row v s are on none =
    let in_marks : v < length marks = marked_below marks v on in
    let in_nodes : v < nodes = (let e = s.size in omega arith) in
    let own : marked (slice_set marks v false) v ≡ false = get_or-set_same marks v false false in_marks in
    let other : (u : ℕ) → (u ≡ v → ⊥) → marked (slice_set marks v false) u ≡ marked marks u = λ u ne. get_or-set_other marks v u false false ne in
    let less : (u : ℕ) → marked marks u ≡ false → marked (slice_set marks v false) u ≡ false = λ u off. elim (cases_eq u v) [
      | inl e ↦ ap (marked (slice_set marks v false)) e ∙ own
      | inr ne ↦ other u ne ∙ off
    ] in
    let all_off : (k : ℕ) → k < length edges → (edge_at edges k).from ≡ v → marked marks (edge_at edges k).to ≡ false = λ k inside is. elim (cases_lt k (index_at places v)) [
      | inl before ↦ s.passed v in_nodes k (omega arith) before inside is
      | inr after ↦ none k after inside inside is
    ] in
    record {
      size = length-set marks v false ∙ s.size;
      placed = s.placed;
      starts = s.starts;
      passed = λ u l k low below inside is. less (edge_at edges k).to (s.passed u l k low below inside is);
      waits = λ u h. elim (cases_eq u v) [
        | inl e ↦ absurd (false≢true (sym own ∙ ap (marked (slice_set marks v false)) (sym e) ∙ h))
        | inr ne ↦ elim (s.waits u (sym (other u ne) ∙ h)) [
          | inl listed ↦ elim (Contains-push_cases again v u listed) [
            | inl still ↦ inl (Contains-append_left again row u still)
            | inr same ↦ absurd (ne (sym same))
          ]
          | inr old ↦
              let p = index_at places u in
              let to = (edge_at edges p).to in
              elim (cases_eq to v) [
                | inl e ↦ inl (Contains-append_right again row u (subst (Contains row) old.from (are.all p old.within e (ap (index_at places) old.from))))
                | inr differs ↦ inr (record { within = old.within; from = old.from; to = other to differs ∙ old.to })
              ]
        ]
      ];
      greatest = λ t each u h. elim (cases_eq u v) [
        | inl e ↦
            let m = each v (ap t (sym e) ∙ h) in
            let q = place_of edges v m.0 m.1 in
            let off : marked marks m.0 ≡ false = ap (marked marks) (sym q.to) ∙ all_off q.place q.within q.from in
            absurd (false≢true (sym off ∙ s.greatest t each m.0 m.2))
        | inr ne ↦ other u ne ∙ s.greatest t each u h
      ];
    }

-- if no node waits for inspection, the candidates are the cycle core
pub settled_leads : (edges : List Edge) (nodes : ℕ) (marks : List Bool) (places : List ℕ) → IsPruning edges nodes marks places [] → (v : ℕ) → marked marks v ≡ true
    → LeadsToMarked edges marks v (index_at places v)
settled_leads edges nodes marks places s v h = elim (s.waits v h) [
  | inl listed ↦ absurd (let l : listed.0 < 0 = listed.1 in omega arith)
  | inr leads ↦ leads
]

pub settled_next : (edges : List Edge) (nodes : ℕ) (marks : List Bool) (places : List ℕ) → IsAscending edges → IsPruning edges nodes marks places [] → (v : ℕ) → marked marks v ≡ true
    → IsSmallestSuccessor (Leads edges) (marked marks) v (edge_at edges (index_at places v)).to
settled_next edges nodes marks places up s v h =
    let l = settled_leads edges nodes marks places s v h in
    let p = index_at places v in
    let in_marks : v < length marks = marked_below marks v h in
    let in_nodes : v < nodes = (let e = s.size in omega arith) in
    record {
      leads = subst (λ (u : ℕ). Leads edges u (edge_at edges p).to) l.from (leads_at edges p l.within);
      member = l.to;
      least = λ u leads on. (
          let q = place_of edges v u leads in
          elim (cases_lt q.place p) [
            | inl before ↦ absurd (false≢true (sym (s.passed v in_nodes q.place (omega arith) before q.within q.from) ∙ ap (marked marks) q.to ∙ on))
            | inr after ↦ elim (cases_eq p q.place) [
              | inl e ↦ let same : (edge_at edges p).to ≡ u = ap (λ (j : ℕ). (edge_at edges j).to) e ∙ q.to in omega arith
              | inr ne ↦
                  let lt : (edge_at edges p).to < (edge_at edges q.place).to = to_ascends edges p q.place up (omega arith) q.within (l.from ∙ sym q.from) in
                  let to = q.to in
                  omega arith
            ]
          ]);
    }

-- the removal of a candidate pays for the inspection of its predecessors
pub work_less : (edges : List Edge) (marks : List Bool) (again row : List ℕ) (v : ℕ) → marked marks v ≡ true → length row ≤ length edges
    → work_left edges (slice_set marks v false) (again ++ row) ≤ work_left edges marks again
work_less edges marks again row v on few =
    let less : mark_count (slice_set marks v false) + 1 ≡ mark_count marks = mark_count-without marks v on in
    let long : length (again ++ row) ≡ length again + length row = length-append again row in
    let all : (mark_count (slice_set marks v false) + 1) * (length edges + 1) ≡ mark_count marks * (length edges + 1) = ap (λ (n : ℕ). n * (length edges + 1)) less in
    omega arith

-- the value that was read is the value at the node's index
pub read_place : (places : List ℕ) (v r : ℕ) → r ≡ slice_index_or places v r → v < length places → r ≡ index_at places v
read_place places v r is l = is ∙ get_or_default places v r 0 l
