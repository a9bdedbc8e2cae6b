-- The nodes that a search reaches are those to which paths lead, and paths along the edges lead back along the reversed edges.
use Rattle.std.proofs.Common.{◌≡◌, ◌≢◌, ℕ, ◌+◌, ◌<◌, List, [], ◌∷◌, ◌++◌, get_or, map, refl, sym, ◌∙◌, ap, ap₂, subst, arith, inl, inr}
use Rattle.std.specs.Prelude.{◌↔◌, All, AllPairs, Contains}
use Rattle.std.proofs.lemmas.Bool.{cases_eq}
use Rattle.std.proofs.lemmas.List.Elements.{All-from_get_or, Contains-append_left, Contains-get_or, Contains-push, Contains-push_cases}
use Rattle.std.proofs.lemmas.List.Quantifiers.{all_pairs_push}
use Rattle.digraph.specs.declared.edge.Edge.{Edge}
use Rattle.digraph.specs.Chains.{Chain, IsAcyclic, IsChain}
use Rattle.digraph.specs.Edges.{transpose, AreBetween, Leads}
use Rattle.digraph.specs.ShortestPaths.{IsPathAround}
use Rattle.digraph.proofs.ByNode.{flipped_between}
use Rattle.digraph.proofs.GoingUp.{path_of_chain}
use Rattle.digraph.proofs.Members.{from_map, in_map, one_member}
use Rattle.digraph.proofs.SameGraphs.{chain_as, AreSame}
use Rattle.cut_net.specs.declared.priced.Priced.{Priced}
use Rattle.cut_net.specs.Cuts.{Any, Imports}
use Rattle.cut_net.specs.Lines.{edge_of}
use Rattle.cut_net.specs.WellFormed as network
use Rattle.cut_net.proofs.Cycles.{pairs_between, same_graph}
use Rattle.cut_report.specs.Reach.{Reaches}

-- ---- numbers that have a property, in order

-- in order, the numbers below a bound that have the property
pub record AreThoseBelow (P : ℕ → Type 0) (bound : ℕ) (numbers : List ℕ) : Type 0 where
  pub ascending : AllPairs (λ m n. m < n) numbers
  pub members : (n : ℕ) → Contains numbers n ↔ ((n < bound) × P n)

pub none_below : (P : ℕ → Type 0) → AreThoseBelow P 0 []
none_below P = record {
  ascending = λ i j d lt l. absurd (omega arith);
  members = λ n. (λ (k, lt, is). absurd (omega arith), λ (lt, has). absurd (omega arith));
}

module _ (P : ℕ → Type 0) (bound : ℕ) (numbers : List ℕ) (are : AreThoseBelow P bound numbers) where
  pub below_and : P bound → AreThoseBelow P (bound + 1) (numbers ++ bound ∷ [])
  below_and has = record {
    ascending = all_pairs_push (λ (m n : ℕ). m < n) numbers bound are.ascending (λ k d lt. ((are.members (get_or numbers k d)).0 (Contains-get_or numbers k d lt)).0);
    members = λ n. (
      λ member. elim (Contains-push_cases numbers bound n member) [
        | inl before ↦ (let own = (are.members n).0 before in let lt = own.0 in (omega arith, own.1))
        | inr e ↦ (let same : bound ≡ n = e in (omega arith, subst P e has))
      ],
      λ (lt, own). elim (cases_eq n bound) [
        | inl e ↦ subst (Contains (numbers ++ bound ∷ [])) (sym e) (Contains-push numbers bound)
        | inr ne ↦ Contains-append_left numbers (bound ∷ []) n ((are.members n).1 (omega arith, own))
      ],
    );
  }

  pub all_below : All (λ n. n < bound) numbers
  all_below = All-from_get_or (λ (n : ℕ). n < bound) numbers 0 (λ i lt. ((are.members (get_or numbers i 0)).0 (Contains-get_or numbers i 0 lt)).0)

  pub below_without : (P bound → ⊥) → AreThoseBelow P (bound + 1) numbers
  below_without fails = record {
    ascending = are.ascending;
    members = λ n. (
      λ member. (let own = (are.members n).0 member in let lt = own.0 in (omega arith, own.1)),
      λ (lt, own). elim (cases_eq n bound) [
        | inl e ↦ absurd (fails (subst P e own))
        | inr ne ↦ (are.members n).1 (omega arith, own)
      ],
    );
  }

-- ---- what the search reaches

-- another node than the start, to which a path leads
abbrev pub IsOther : List Edge → ℕ → ℕ → Type 0
IsOther edges start n = (n ≢ start) × ((path : List ℕ) × IsPathAround (Leads edges) (start ∷ []) [] n path)

chain_within : (edges : List Edge) (nodes : ℕ) → AreBetween edges nodes → (m n : ℕ) (more : List ℕ) → m < nodes → IsChain (Leads edges) m more n → n < nodes
chain_within edges nodes between m n [] lt is = subst (λ (k : ℕ). k < nodes) is lt
chain_within edges nodes between m n (k ∷ more) lt (leads, chain) = chain_within edges nodes between k n more (between (record { from = m; to = k }) leads).1 chain

reaches_other : (edges : List Edge) (start n : ℕ) (path : List ℕ) → n ≢ start → IsPathAround (Leads edges) (start ∷ []) [] n path → Reaches (Leads edges) start n
reaches_other edges start n [] apart is = absurd is
reaches_other edges start n (m ∷ []) apart (from, chain, free) = absurd (apart (sym (one_member start m from ∙ chain)))
reaches_other edges start n (m ∷ k ∷ more) apart (from, (leads, chain), free) = (k, subst (λ (i : ℕ). Leads edges i k) (sym (one_member start m from)) leads, (more, chain))

pub reaches_all : (edges : List Edge) (nodes start : ℕ) (reached : List ℕ) → AreBetween edges nodes → IsAcyclic (Leads edges) → AreThoseBelow (IsOther edges start) nodes reached → (n : ℕ) → Contains reached n ↔ Reaches (Leads edges) start n
reaches_all edges nodes start reached between acyclic are n = (
  λ member. (let own = (are.members n).0 member in reaches_other edges start n own.1.1.0 own.1.0 own.1.1.1),
  λ (k, leads, (more, chain)). (are.members n).1 (
    chain_within edges nodes between k n more (between (record { from = start; to = k }) leads).1 chain,
    (λ e. acyclic start k leads (more, subst (IsChain (Leads edges) k more) e chain), (start ∷ k ∷ more, path_of_chain (Leads edges) start (k ∷ more) n (leads, chain))),
  ),
)

-- ---- in graphs with the same edges, and with reversed ones

pub reaches_as : (G H : ℕ → ℕ → Type 0) → AreSame G H → (m n : ℕ) → Reaches G m n ↔ Reaches H m n
reaches_as G H same m n = (
  λ (k, leads, (more, chain)). (k, (same m k).0 leads, (more, chain_as H G (λ i j. ((same i j).1, (same i j).0)) k more n chain)),
  λ (k, leads, (more, chain)). (k, (same m k).1 leads, (more, chain_as G H same k more n chain)),
)

-- an edge leads in the one graph exactly if it leads back in the other
abbrev pub AreReversed : (ℕ → ℕ → Type 0) → (ℕ → ℕ → Type 0) → Type 0
AreReversed G H = (m n : ℕ) → G m n ↔ H n m

module _ (G H : ℕ → ℕ → Type 0) (back : (m n : ℕ) → G m n → H n m) where
  chain_then : (m k n : ℕ) (more : List ℕ) → IsChain H m more k → H k n → Chain H m n
  chain_then m k n [] is leads = (n ∷ [], (subst (λ (i : ℕ). H i n) (sym is) leads, refl))
  chain_then m k n (j ∷ more) (first, chain) leads = let rest = chain_then j k n more chain leads in (j ∷ rest.0, (first, rest.1))

  chain_back : (m : ℕ) (more : List ℕ) (n : ℕ) → IsChain G m more n → Chain H n m
  chain_back m [] n is = ([], sym is)
  chain_back m (k ∷ more) n (leads, chain) = let rest = chain_back k more n chain in chain_then n k m rest.0 rest.1 (back m k leads)

  first_step : (m k n : ℕ) (more : List ℕ) → IsChain H m more k → H k n → Reaches H m n
  first_step m k n [] is leads = (n, subst (λ (i : ℕ). H i n) (sym is) leads, ([], refl))
  first_step m k n (j ∷ more) (first, chain) leads = (j, first, chain_then j k n more chain leads)

  pub reaches_back : (m n : ℕ) → Reaches G m n → Reaches H n m
  reaches_back m n (k, leads, (more, chain)) = let rest = chain_back k more n chain in first_step n k m rest.0 rest.1 (back m k leads)

  pub acyclic_back : IsAcyclic H → IsAcyclic G
  acyclic_back none m n leads (more, chain) = none n m (back m n leads) (chain_back n more m chain)

-- the edges, each the other way round
reversed_leads : (edges others : List Edge) → ((p : Edge) → Contains others p ↔ Contains (map transpose edges) p) → AreReversed (Leads others) (Leads edges)
reversed_leads edges others same m n = (
  λ has.
      let (p, member, is) = from_map transpose edges (record { from = m; to = n }) ((same (record { from = m; to = n })).0 has) in
      let from : p.from ≡ n = ap (λ (q : Edge). q.to) is in
      let to : p.to ≡ m = ap (λ (q : Edge). q.from) is in
      subst (Contains edges) (ap₂ (λ (i j : ℕ). record { from = i; to = j }) from to) member,
  λ has. (same (record { from = m; to = n })).1 (in_map transpose edges (record { from = n; to = m }) has),
)

reversed_between : (edges others : List Edge) (nodes : ℕ) → ((p : Edge) → Contains others p ↔ Contains (map transpose edges) p) → AreBetween edges nodes → AreBetween others nodes
reversed_between edges others nodes same between p has = flipped_between edges nodes between p ((same p).0 has)

-- ---- the imports of a network, as edges the other way round

module _ (imports : List Priced) (given reversed others : List Edge) (reversed_is : reversed ≡ map transpose given) (given_is : given ≡ map edge_of imports) (same : (p : Edge) → Contains others p ↔ Contains reversed p) where
  all_same : (p : Edge) → Contains others p ↔ Contains (map transpose (map edge_of imports)) p
  all_same p = subst (λ (r : List Edge). Contains others p ↔ Contains r p) (reversed_is ∙ ap (map transpose) given_is) (same p)

  pub imports_reversed : AreReversed (Leads others) (Imports imports Any)
  imports_reversed m n =
      let edges = reversed_leads (map edge_of imports) others all_same m n in
      let graph = same_graph imports n m in
      (λ leads. graph.0 (edges.0 leads), λ leads. edges.1 (graph.1 leads))

  pub imports_between : (nodes : ℕ) → network.AreBetween imports nodes → AreBetween others nodes
  imports_between nodes between = reversed_between (map edge_of imports) others nodes all_same (pairs_between imports nodes between)
