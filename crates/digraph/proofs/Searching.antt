-- Breadth-first search, for each node of its queue.
use Rattle.std.proofs.Common.{◌≡◌, ℕ, ◌+◌, ◌-◌, ◌≤◌, ◌<◌, ◌⊎◌, inl, inr, List, [], ◌∷◌, ◌++◌, length, get_or, refl, sym, ◌∙◌, ap, subst, arith, Bool, Option, Some, None, false, cond, replicate, length-append, append_assoc}
use Rattle.std.specs.Prelude.{All, Contains, is_some}
use Rattle.std.proofs.lemmas.Bool.{cases_eq, cases_lt}
use Rattle.std.proofs.lemmas.List.{append-nil, get_or_append_left, get_or-append_right, get_or_default, get_or_read, length-replicate}
use Rattle.std.proofs.lemmas.List.Elements.{All-head, All-nil, All-push, All-tail, Contains-append_cases, Contains-append_left, Contains-append_right, Contains-get_or}
use Rattle.digraph.specs.declared.edge.Edge.{Edge}
use Rattle.digraph.specs.declared.search.Search.{Search}
use Rattle.digraph.specs.Chains.{IsChain}
use Rattle.digraph.specs.Edges.{successors, Leads}
use Rattle.digraph.specs.Marks.{marked}
use Rattle.digraph.specs.Search.{parent_of, undiscovered, AreDiscovered, IsSearch}
use Rattle.digraph.specs.ShortestPaths.{IsPathAround, IsShortestPath}
use Rattle.digraph.proofs.Parents.{never_both, no_parent, none_discovered, parent_within, same_value, some_or_none}
use Rattle.digraph.proofs.PathOrder.{before_push, before_push_same, least_up_to, one_least, up_to_append, up_to_trans, IsBefore, IsUpTo}
use Rattle.digraph.proofs.Successors.{successor}

-- ---- paths with one more node

chain_push : (leads : ℕ → ℕ → Type 0) (m : ℕ) (more : List ℕ) (n v : ℕ) → IsChain leads m more n → leads n v → IsChain leads m (more ++ v ∷ []) v
chain_push leads m [] n v is step = (subst (λ (k : ℕ). leads k v) (sym is) step, refl)
chain_push leads m (k ∷ more) n v is step = (is.0, chain_push leads k more n v is.1 step)

path_push : (leads : ℕ → ℕ → Type 0) (starts : List ℕ) (barrier : List Bool) (n v : ℕ) (path : List ℕ) → IsPathAround leads starts barrier n path → leads n v → marked barrier v ≡ false → IsPathAround leads starts barrier v (path ++ v ∷ [])
path_push leads starts barrier n v [] is step unmarked = absurd is
path_push leads starts barrier n v (m ∷ more) is step unmarked = (is.0, chain_push leads m more n v is.1 step, All-push (λ (k : ℕ). marked barrier k ≡ false) more v is.2 unmarked)

pub path_some : (leads : ℕ → ℕ → Type 0) (starts : List ℕ) (barrier : List Bool) (v : ℕ) (path : List ℕ) → IsPathAround leads starts barrier v path → 0 < length path
path_some leads starts barrier v [] is = absurd is
path_some leads starts barrier v (m ∷ more) is = omega arith

-- ---- the search so far

-- a node with this parent is a start and its own parent, or its path is the path of one of the first nodes of the queue, followed by it
abbrev pub ComesFrom : List ℕ → ℕ → (ℕ → List ℕ) → ℕ → ℕ → Type 0
ComesFrom queue next path v u =
    ((u ≡ v) × (path v ≡ v ∷ [])) ⊎ ((k : ℕ) × (k < next) × (get_or queue k 0 ≡ u) × (path v ≡ path u ++ v ∷ []))

-- the nodes with a parent have these paths, the queue is sorted by path, and the successors of its first nodes have parents
pub record HasPaths (edges : List Edge) (starts : List ℕ) (barrier : List Bool) (nodes : ℕ) (parents : List (Option ℕ)) (queue : List ℕ) (next : ℕ) (path : ℕ → List ℕ) : Type 0 where
  pub size : length parents ≡ nodes
  pub are_paths : (v u : ℕ) → parent_of parents v ≡ Some u → IsPathAround (Leads edges) starts barrier v (path v)
  pub from : (v u : ℕ) → parent_of parents v ≡ Some u → ComesFrom queue next path v u
  pub order : (i j : ℕ) → i < j → j < length queue → IsBefore (path (get_or queue i 0)) (path (get_or queue j 0))
  pub own_parents : (v : ℕ) → Contains starts v → (parent_of parents v ≡ Some v) × (path v ≡ v ∷ [])
  pub closed : (k w : ℕ) → k < next → k < length queue → Leads edges (get_or queue k 0) w → marked barrier w ≡ false →
      (u : ℕ) × (parent_of parents w ≡ Some u) × IsUpTo (path w) (path (get_or queue k 0) ++ w ∷ [])
  pub queued : (v u : ℕ) → parent_of parents v ≡ Some u → Contains queue v
  pub discovered : (v : ℕ) → Contains queue v → (u : ℕ) × (parent_of parents v ≡ Some u)
  pub count : undiscovered parents + length queue ≡ nodes
  pub long : (i : ℕ) → i < length queue → length (path (get_or queue i 0)) ≤ i + 1

pub record IsSearching (edges : List Edge) (starts : List ℕ) (barrier : List Bool) (nodes : ℕ) (parents : List (Option ℕ)) (queue : List ℕ) (next : ℕ) : Type 0 where
  pub path : ℕ → List ℕ
  pub has : HasPaths edges starts barrier nodes parents queue next path

-- the starts
pub searching_starts : (edges : List Edge) (starts : List ℕ) (barrier : List Bool) (nodes : ℕ) (parents : List (Option ℕ)) (queue : List ℕ) → AreDiscovered starts [] (λ v. v) (replicate nodes None) parents queue →
    IsSearching edges starts barrier nodes parents queue 0
searching_starts edges starts barrier nodes parents queue are =
    let old : List (Option ℕ) = replicate nodes None in
    let is_found : (v u : ℕ) → parent_of parents v ≡ Some u → Contains queue v = λ v u is. elim (are.only v u is) [
      | inl was ↦ never_both (parent_of old v) u was (no_parent nodes v)
      | inr own ↦ own
    ] in
    record {
      path = λ v. v ∷ [];
      has = record {
        size = are.size ∙ length-replicate nodes None;
        are_paths = λ v u is. ((are.found_are v (is_found v u is)).1, refl, All-nil (λ (n : ℕ). marked barrier n ≡ false));
        from = λ v u is. inl (same_value (parent_of parents v) u v is (are.found_are v (is_found v u is)).3, refl);
        order = λ i j lt within. before_push_same [] (get_or queue i 0) (get_or queue j 0) (are.ascending i j 0 lt within);
        own_parents = λ v has. ((are.found_are v (are.are_found v has refl (no_parent nodes v))).3, refl);
        closed = λ k w lt within leads unmarked. absurd (omega arith);
        queued = is_found;
        discovered = λ v has. (v, (are.found_are v has).3);
        count = (let all = are.count in let none = none_discovered nodes in omega arith);
        long = λ i within. omega arith;
      };
    }

module _ (edges : List Edge) (starts : List ℕ) (barrier : List Bool) (nodes : ℕ) (parents : List (Option ℕ)) (queue : List ℕ) (next : ℕ) (path : ℕ → List ℕ) (s : HasPaths edges starts barrier nodes parents queue next path) where
  -- a node's parent has a parent too
  pub parent_has : (v u : ℕ) → next ≤ length queue → parent_of parents v ≡ Some u → (w : ℕ) × (parent_of parents u ≡ Some w)
  parent_has v u le is = elim (s.from v u is) [
    | inl (own, alone) ↦ (u, ap (parent_of parents) own ∙ is)
    | inr (k, lt, at, more) ↦ s.discovered u (subst (Contains queue) at (Contains-get_or queue k 0 (omega arith)))
  ]

  -- each node of the queue is a node of the graph
  queue_within : (k : ℕ) → k < length queue → get_or queue k 0 < nodes
  queue_within k lt =
      let own = s.discovered (get_or queue k 0) (Contains-get_or queue k 0 lt) in
      let low = parent_within parents (get_or queue k 0) own.0 own.1 in
      let size = s.size in
      omega arith

  -- ---- the next node of the queue

  -- the path of the node, with one more node, comes after the path of each node that has a parent
  below_next : (v u w : ℕ) → next < length queue → parent_of parents v ≡ Some u → IsBefore (path v) (path (get_or queue next 0) ++ w ∷ [])
  below_next v u w lt is =
      let last = get_or queue next 0 in
      let own = s.discovered last (Contains-get_or queue next 0 lt) in
      let some = path_some (Leads edges) starts barrier last (path last) (s.are_paths last own.0 own.1) in
      let long = length-append (path last) (w ∷ []) in
      elim (s.from v u is) [
        | inl (_, alone) ↦ inl (let size = ap length alone in omega arith)
        | inr (k, lower, at, more) ↦ subst (λ (p : List ℕ). IsBefore p (path last ++ w ∷ [])) (ap (λ (n : ℕ). path n ++ v ∷ []) at ∙ sym more)
            (before_push (path (get_or queue k 0)) (path last) v w (s.order k next lower lt))
      ]

  module _ (new : List (Option ℕ)) (found : List ℕ) (are : AreDiscovered (successors edges (get_or queue next 0)) barrier (λ _. get_or queue next 0) parents new found) (within : next < length queue) where
    abbrev node : ℕ
    node = get_or queue next 0

    -- nodes that had a parent keep their paths, and the others get theirs from the current node
    abbrev longer : ℕ → List ℕ
    longer v = cond (is_some (parent_of parents v)) (path v) (path node ++ v ∷ [])

    stays : (v u : ℕ) → parent_of parents v ≡ Some u → longer v ≡ path v
    stays v u is = ap (λ (o : Option ℕ). cond {A = List ℕ} (is_some o) (path v) (path node ++ v ∷ [])) is

    comes : (v : ℕ) → parent_of parents v ≡ None → longer v ≡ path node ++ v ∷ []
    comes v is = ap (λ (o : Option ℕ). cond {A = List ℕ} (is_some o) (path v) (path node ++ v ∷ [])) is

    node_has : (u : ℕ) × (parent_of parents node ≡ Some u)
    node_has = s.discovered node (Contains-get_or queue next 0 within)

    node_stays : longer node ≡ path node
    node_stays = stays node node_has.0 node_has.1

    old_at : (i : ℕ) → i < length queue → get_or (queue ++ found) i 0 ≡ get_or queue i 0
    old_at i lt = get_or_append_left queue found 0 i lt

    old_path : (i : ℕ) → i < length queue → longer (get_or (queue ++ found) i 0) ≡ path (get_or queue i 0)
    old_path i lt =
        let own = s.discovered (get_or queue i 0) (Contains-get_or queue i 0 lt) in
        ap longer (old_at i lt) ∙ stays (get_or queue i 0) own.0 own.1

    new_at : (i : ℕ) → length queue ≤ i → get_or (queue ++ found) i 0 ≡ get_or found (i - length queue) 0
    new_at i le = get_or-append_right queue found (length queue) i 0 refl le

    new_path : (i : ℕ) → length queue ≤ i → i < length queue + length found → longer (get_or (queue ++ found) i 0) ≡ path node ++ get_or found (i - length queue) 0 ∷ []
    new_path i le lt =
        let own = are.found_are (get_or found (i - length queue) 0) (Contains-get_or found (i - length queue) 0 (omega arith)) in
        ap longer (new_at i le) ∙ comes (get_or found (i - length queue) 0) own.0

    new_are_paths : (v u : ℕ) → parent_of new v ≡ Some u → IsPathAround (Leads edges) starts barrier v (longer v)
    new_are_paths v u is = elim (are.only v u is) [
      | inl was ↦ subst (IsPathAround (Leads edges) starts barrier v) (sym (stays v u was)) (s.are_paths v u was)
      | inr has ↦
          let own = are.found_are v has in
          subst (IsPathAround (Leads edges) starts barrier v) (sym (comes v own.0))
          (path_push (Leads edges) starts barrier node v (path node) (s.are_paths node node_has.0 node_has.1) ((successor edges node v).0 own.1) own.2)
    ]

    new_from : (v u : ℕ) → parent_of new v ≡ Some u → ComesFrom (queue ++ found) (next + 1) longer v u
    new_from v u is = elim (are.only v u is) [
      | inl was ↦ elim (s.from v u was) [
        | inl (own, alone) ↦ inl (own, stays v u was ∙ alone)
        | inr (k, lt, at, more) ↦
            let up = parent_has v u (omega arith) was in
            inr (k, omega arith, old_at k (omega arith) ∙ at, stays v u was ∙ more ∙ ap (λ (p : List ℕ). p ++ v ∷ []) (sym (stays u up.0 up.1)))
      ]
      | inr has ↦
          let own = are.found_are v has in
          let e : u ≡ node = same_value (parent_of new v) u node is own.3 in
          inr (next, omega arith, old_at next within ∙ sym e, comes v own.0 ∙ ap (λ (p : List ℕ). p ++ v ∷ []) (sym (ap longer e ∙ node_stays)))
    ]

    new_order : (i j : ℕ) → i < j → j < length (queue ++ found) → IsBefore (longer (get_or (queue ++ found) i 0)) (longer (get_or (queue ++ found) j 0))
    new_order i j lt in_queue =
        let size = length-append queue found in
        elim (cases_lt j (length queue)) [
          | inl low ↦
              let first : i < length queue = omega arith in
              subst (λ (p : List ℕ). IsBefore p (longer (get_or (queue ++ found) j 0))) (sym (old_path i first))
              (subst (IsBefore (path (get_or queue i 0))) (sym (old_path j low)) (s.order i j lt low))
          | inr high ↦
              let last : j < length queue + length found = omega arith in
              subst (IsBefore (longer (get_or (queue ++ found) i 0))) (sym (new_path j high last)) (elim (cases_lt i (length queue)) [
                | inl low ↦
                    let own = s.discovered (get_or queue i 0) (Contains-get_or queue i 0 low) in
                    subst (λ (p : List ℕ). IsBefore p (path node ++ get_or found (j - length queue) 0 ∷ [])) (sym (old_path i low))
                    (below_next (get_or queue i 0) own.0 (get_or found (j - length queue) 0) within own.1)
                | inr up ↦
                    let first : i < length queue + length found = omega arith in
                    subst (λ (p : List ℕ). IsBefore p (path node ++ get_or found (j - length queue) 0 ∷ [])) (sym (new_path i up first))
                    (before_push_same (path node) (get_or found (i - length queue) 0) (get_or found (j - length queue) 0) (are.ascending (i - length queue) (j - length queue) 0 (omega arith) (omega arith)))
              ])
        ]

    new_closed : (k w : ℕ) → k < next + 1 → k < length (queue ++ found) → Leads edges (get_or (queue ++ found) k 0) w → marked barrier w ≡ false →
        (u : ℕ) × (parent_of new w ≡ Some u) × IsUpTo (longer w) (longer (get_or (queue ++ found) k 0) ++ w ∷ [])
    new_closed k w lt _ leads unmarked =
        let low : k < length queue = omega arith in
        let from : Leads edges (get_or queue k 0) w = subst (λ (n : ℕ). Leads edges n w) (old_at k low) leads in
        let end : (p : List ℕ) → IsUpTo p (path (get_or queue k 0) ++ w ∷ []) → IsUpTo p (longer (get_or (queue ++ found) k 0) ++ w ∷ []) =
        λ p up. subst (λ (q : List ℕ). IsUpTo p (q ++ w ∷ [])) (sym (old_path k low)) up in
        elim (cases_eq k next) [
          | inl e ↦
              let own : Leads edges node w = subst (λ (i : ℕ). Leads edges (get_or queue i 0) w) e from in
              elim (some_or_none (parent_of parents w)) [
                | inl (u, is) ↦ (
                  u,
                  are.unchanged w u is,
                  end (longer w) (subst (λ (p : List ℕ). IsUpTo p (path (get_or queue k 0) ++ w ∷ [])) (sym (stays w u is))
                      (inl (subst (λ (i : ℕ). IsBefore (path w) (path (get_or queue i 0) ++ w ∷ [])) (sym e) (below_next w u w within is)))),
                )
                | inr none ↦
                    let it = are.found_are w (are.are_found w ((successor edges node w).1 own) unmarked none) in
                    (node, it.3, end (longer w) (inr (comes w none ∙ ap (λ (i : ℕ). path (get_or queue i 0) ++ w ∷ []) (sym e))))
              ]
          | inr ne ↦
              let (u, is, up) = s.closed k w (omega arith) low from unmarked in
              (u, are.unchanged w u is, end (longer w) (subst (λ (p : List ℕ). IsUpTo p (path (get_or queue k 0) ++ w ∷ [])) (sym (stays w u is)) up))
        ]

    pub searching_more : IsSearching edges starts barrier nodes new (queue ++ found) (next + 1)
    searching_more = record {
      path = longer;
      has = record {
        size = are.size ∙ s.size;
        are_paths = new_are_paths;
        from = new_from;
        order = new_order;
        own_parents = λ v has. let own = s.own_parents v has in (are.unchanged v v own.0, stays v v own.0 ∙ own.1);
        closed = new_closed;
        queued = λ v u is. elim (are.only v u is) [
          | inl was ↦ Contains-append_left queue found v (s.queued v u was)
          | inr has ↦ Contains-append_right queue found v has
        ];
        discovered = λ v has. elim (Contains-append_cases queue found v has) [
          | inl before ↦ (let own = s.discovered v before in (own.0, are.unchanged v own.0 own.1))
          | inr now ↦ (node, (are.found_are v now).3)
        ];
        count = (let size = length-append queue found in let one = are.count in let all = s.count in omega arith);
        long = λ i lt.
            let size = length-append queue found in
            elim (cases_lt i (length queue)) [
              | inl low ↦ subst (λ (p : List ℕ). length p ≤ i + 1) (sym (old_path i low)) (s.long i low)
              | inr high ↦
                  let last : i < length queue + length found = omega arith in
                  let pushed = length-append (path node) (get_or found (i - length queue) 0 ∷ []) in
                  let short = s.long next within in
                  subst (λ (p : List ℕ). length p ≤ i + 1) (sym (new_path i high last)) (omega arith)
            ];
      };
    }

  -- ---- the end

  module _ (all : length queue ≤ next) where
    abbrev IsPath : ℕ → List ℕ → Type 0
    IsPath v p = IsPathAround (Leads edges) starts barrier v p

    -- a path that continues from a node with a parent leads to a node with a parent, whose own path precedes or equals it
    goes_on : (m u : ℕ) → parent_of parents m ≡ Some u → (more : List ℕ) (v : ℕ) → IsChain (Leads edges) m more v → All (λ n. marked barrier n ≡ false) more →
        (w : ℕ) × (parent_of parents v ≡ Some w) × IsUpTo (path v) (path m ++ more)
    goes_on m u is [] v chain unmarked = (u, ap (parent_of parents) (sym chain) ∙ is, inr (ap path (sym chain) ∙ sym (append-nil (path m))))
    goes_on m u is (n ∷ more) v chain unmarked =
        let (k, lt, at) = s.queued m u is in
        let at_zero : get_or queue k 0 ≡ m = get_or_default queue k 0 m lt ∙ at in
        let (w, own, up) = s.closed k n (omega arith) lt (subst (λ (i : ℕ). Leads edges i n) (sym at_zero) chain.0) (All-head (λ (i : ℕ). marked barrier i ≡ false) n more unmarked) in
        let here : IsUpTo (path n) (path m ++ n ∷ []) = subst (λ (i : ℕ). IsUpTo (path n) (path i ++ n ∷ [])) at_zero up in
        let (x, last, rest) = goes_on n w own more v chain.1 (All-tail (λ (i : ℕ). marked barrier i ≡ false) n more unmarked) in (
          x,
          last,
          up_to_trans (path v) (path n ++ more) (path m ++ n ∷ more) rest
              (subst (IsUpTo (path n ++ more)) (append_assoc (path m) (n ∷ []) more) (up_to_append (path n) (path m ++ n ∷ []) more here)),
        )

    reached : (v : ℕ) (other : List ℕ) → IsPath v other → (w : ℕ) × (parent_of parents v ≡ Some w) × IsUpTo (path v) other
    reached v [] is = absurd is
    reached v (m ∷ more) (start, chain, unmarked) =
        let own = s.own_parents m start in
        let (w, last, up) = goes_on m m own.0 more v chain unmarked in
        (w, last, subst (λ (p : List ℕ). IsUpTo (path v) (p ++ more)) own.1 up)

    shortest : (v u : ℕ) → parent_of parents v ≡ Some u → IsShortestPath (Leads edges) starts barrier v (path v)
    shortest v u is = least_up_to (IsPath v) (path v) (s.are_paths v u is) (λ other are. (reached v other are).2)

    -- a node that is its own parent has no other path
    alone : (v : ℕ) → parent_of parents v ≡ Some v → path v ≡ v ∷ []
    alone v is = elim (s.from v v is) [
      | inl (_, one) ↦ one
      | inr (k, lt, at, more) ↦ absurd (let size = ap length more in let long = length-append (path v) (v ∷ []) in omega arith)
    ]

    pub search_all : next ≤ length queue → (search : Search) → search.parents.items ≡ parents → IsSearch edges starts barrier search
    search_all le search same =
        let at : (v : ℕ) → parent_of search.parents.items v ≡ parent_of parents v = λ v. ap (λ (ps : List (Option ℕ)). parent_of ps v) same in
        record {
          shortest = λ v u is.
              let own : parent_of parents v ≡ Some u = sym (at v) ∙ is in
              let (k, lt, there) = s.queued v u own in
              let at_zero : get_or queue k 0 ≡ v = get_or_default queue k 0 v lt ∙ there in
              let long = s.long k lt in
              let same_long = ap (λ (n : ℕ). length (path n)) at_zero in
              let count = s.count in
              let size = s.size in
              let size_too = ap length same in
              (path v, shortest v u own, omega arith);
          none = λ v other is are. let (w, own, up) = reached v other are in never_both (parent_of parents v) w own (sym (at v) ∙ is);
          start = λ v is. let own : parent_of parents v ≡ Some v = sym (at v) ∙ is in subst (IsShortestPath (Leads edges) starts barrier v) (alone v own) (shortest v v own);
          parent = λ v u is. let up = parent_has v u le (sym (at v) ∙ is) in (up.0, at u ∙ up.1);
          step = λ v u other is apart are.
              let own : parent_of parents v ≡ Some u = sym (at v) ∙ is in
              let up = parent_has v u le own in
              elim (s.from v u own) [
                | inl (e, one) ↦ absurd (apart (sym e))
                | inr (k, lt, place, more) ↦ subst (IsShortestPath (Leads edges) starts barrier v)
                    (more ∙ ap (λ (p : List ℕ). p ++ v ∷ []) (one_least (IsPath u) (path u) other (shortest u up.0 up.1) are)) (shortest v u own)
              ];
        }

-- the next node that is read from the queue
pub next_read : (edges : List Edge) (starts : List ℕ) (barrier : List Bool) (nodes : ℕ) (parents : List (Option ℕ)) (queue : List ℕ) (next : ℕ) → IsSearching edges starts barrier nodes parents queue next →
    (node : ℕ) → next < length queue → node ≡ get_or queue next node → (node ≡ get_or queue next 0) × (node < nodes)
next_read edges starts barrier nodes parents queue next s node lt read =
    let is = get_or_read queue next node lt read 0 in
    let low = queue_within edges starts barrier nodes parents queue next s.path s.has next lt in
    (is, omega arith)
