-- Files have one outcome.
use Rattle.std.proofs.Common.{◌≡◌, ℕ, ◌<◌, ◌≤◌, List, [], ◌∷◌, ◌++◌, length, get_or, Result, Ok, Err, refl, sym, ◌∙◌, ap, subst, arith, inl, inr, map}
use Rattle.std.specs.Prelude.{Contains, IsPermutation}
use Rattle.std.specs.Str.{bytes_eq}
use Rattle.std.specs.String.{string_bytes}
use Rattle.std.proofs.lemmas.Bool.{false≢true}
use Rattle.std.proofs.lemmas.List.Sorted.{Contains-permutation, IsPermutation-sym, length_permutation}
use Rattle.std.proofs.lemmas.Map.Keys.{apart_from_distinct}
use Rattle.std.proofs.lemmas.Slice.Eq.{bytes_eq-Decides}
use Rattle.digraph.specs.declared.edge.Edge.{Edge}
use Rattle.digraph.specs.Chains.{IsAcyclic}
use Rattle.digraph.specs.Cycle.{IsCanonicalCycle}
use Rattle.ob_imports.specs.declared.fault.GraphFault.{GraphFault}
use Rattle.ob_imports.specs.declared.fault.GraphFault.TheVariants as faults
use Rattle.ob_imports.specs.Files.{AreNodes, DifferInName, File, Imports, names_of, paths_of}
use Rattle.ob_imports.specs.Graphs.{ImportGraph, IsGraphOf}
use Rattle.ob_imports.specs.Names.{LeadsBy, texts}
use Rattle.ob_imports.specs.Outcomes.{AreFilesOfGraph, Cycle, GraphError, IsCycle, IsCycleOf, IsGraphOutcome, IsTwoModules, HasOutcome, TooMany, TwoModules}
use Rattle.digraph.proofs.Ascending.{same_edges, same_names}
use Rattle.ob_imports.proofs.KeptGraphs.{acyclic_places}
use Rattle.digraph.proofs.OneCycle.{cyclic, cycle_is_unique}
use Rattle.ob_imports.proofs.OneOrder.{neither, one_sorting}
use Rattle.ob_imports.proofs.SameNames.{once_from, paths_times, times}

-- ---- one graph

one_nodes : (files : List File) (a b : List (List ℕ)) → AreNodes files a → AreNodes files b → a ≡ b
one_nodes files a b p q =
    let others : p.others ≡ q.others = same_names p.others q.others p.ascend q.ascend (λ n h. (q.external n).1 ((p.external n).0 h)) (λ n h. (p.external n).1 ((q.external n).0 h)) in
    p.whole ∙ ap (λ (ns : List (List ℕ)). names_of files ++ ns) others ∙ sym q.whole

pairs_over : (files : List File) (g h : ImportGraph) → IsGraphOf files g → IsGraphOf files h → g.names ≡ h.names → (p : Edge) → Contains g.pairs p → Contains h.pairs p
pairs_over files g h a b names p has = (b.leads p.from p.to).1 (subst (λ (ns : List (List ℕ)). LeadsBy (Imports files) ns p.from p.to) names ((a.leads p.from p.to).0 has))

one_graph : (files : List File) (g h : ImportGraph) → IsGraphOf files g → IsGraphOf files h → g ≡ h
one_graph files g h a b =
    let names : g.names ≡ h.names = one_nodes files g.names h.names a.nodes b.nodes in
    let modules : g.modules ≡ h.modules = a.modules ∙ sym b.modules in
    let pairs : g.pairs ≡ h.pairs = same_edges g.pairs h.pairs a.ascend b.ascend (pairs_over files g h a b names) (pairs_over files h g b a (sym names)) in
    λ k. record { names = names k; modules = modules k; pairs = pairs k }

-- ---- one cycle

one_cycle_of : (files : List File) (nodes a b : List (List ℕ)) → IsCycleOf files nodes a → IsCycleOf files nodes b → a ≡ b
one_cycle_of files nodes a b s t =
    let order : s.order ≡ t.order = same_names s.order t.order s.ascend t.ascend
    (λ n h. Contains-permutation nodes t.order n t.same (Contains-permutation s.order nodes n (IsPermutation-sym nodes s.order s.same) h))
    (λ n h. Contains-permutation nodes s.order n s.same (Contains-permutation t.order nodes n (IsPermutation-sym nodes t.order t.same) h)) in
    let cycle : s.cycle ≡ t.cycle = cycle_is_unique (LeadsBy (Imports files) s.order) s.cycle t.cycle s.is_cycle (subst (λ (ns : List (List ℕ)). IsCanonicalCycle (LeadsBy (Imports files) ns) t.cycle) (sym order) t.is_cycle) in
    s.are_names ∙ ap (λ (ns : List (List ℕ)). map (λ r. get_or ns r []) s.cycle) order ∙ ap (map (λ r. get_or t.order r [])) cycle ∙ sym t.are_names

no_cycle : (files : List File) (names : List (List ℕ)) → IsAcyclic (Imports files) → IsCycle files names → ⊥
no_cycle files names none c = cyclic (LeadsBy (Imports files) c.is_cycle.order) c.is_cycle.cycle c.is_cycle.is_cycle (acyclic_places files c.is_cycle.order none)

-- ---- two modules of one name

many : (files : List File) (name first second : List ℕ) → IsTwoModules files name first second → 2 ≤ length (paths_of files name)
many files name first second t =
    let same : length (first ∷ second ∷ t.rest) ≡ length (paths_of files name) = length_permutation (paths_of files name) (first ∷ second ∷ t.rest) t.paths in
    omega arith

not_differ : (files : List File) (name first second : List ℕ) → IsTwoModules files name first second → DifferInName files → ⊥
not_differ files name first second t once =
    let two : 2 ≤ length (paths_of files name) = many files name first second t in
    let count = paths_times files name in
    let one : times (names_of files) name ≤ 1 = once_from (names_of files) name (λ i j lt l e g.
    false≢true (sym (apart_from_distinct bytes_eq (names_of files) i j name once lt l) ∙ (bytes_eq-Decides (get_or (names_of files) i name) (get_or (names_of files) j name)).1 (e ∙ sym g))) in
    absurd (omega arith)

first_of : (a b c d : List ℕ) (xs ys : List (List ℕ)) → a ∷ b ∷ xs ≡ c ∷ d ∷ ys → a ≡ c
first_of a b c d xs ys e = ap (λ (l : List (List ℕ)). get_or l 0 []) e

second_of : (a b c d : List ℕ) (xs ys : List (List ℕ)) → a ∷ b ∷ xs ≡ c ∷ d ∷ ys → b ≡ d
second_of a b c d xs ys e = ap (λ (l : List (List ℕ)). get_or l 1 []) e

one_two : (files : List File) (n a b m c d : List ℕ) → IsTwoModules files n a b → IsTwoModules files m c d → TwoModules n a b ≡ TwoModules m c d
one_two files n a b m c d s t =
    let name : n ≡ m = neither n m (t.least n (many files n a b s)) (s.least m (many files m c d t)) in
    let moved : IsPermutation (paths_of files n) (c ∷ d ∷ t.rest) = subst (λ (x : List ℕ). IsPermutation (paths_of files x) (c ∷ d ∷ t.rest)) (sym name) t.paths in
    let paths : a ∷ b ∷ s.rest ≡ c ∷ d ∷ t.rest = one_sorting (paths_of files n) (a ∷ b ∷ s.rest) (c ∷ d ∷ t.rest) s.paths moved s.in_order t.in_order in
    let one : a ≡ c = first_of a b c d s.rest t.rest paths in
    let two : b ≡ d = second_of a b c d s.rest t.rest paths in
    λ k. TwoModules (name k) (one k) (two k)

-- ---- limits

not_two_many : (files : List File) (n a b : List ℕ) → IsTwoModules files n a b → IsGraphOutcome files (Err TooMany) → ⊥
not_two_many files n a b t (inl more) = (let few : length files ≤ 4096 = t.few_modules in absurd (omega arith))
not_two_many files n a b t (inr (inl nodes)) = not_differ files n a b t nodes.are_files.differ
not_two_many files n a b t (inr (inr pairs)) = not_differ files n a b t pairs.are_files.differ

not_kept_many : (files : List File) (g : ImportGraph) → AreFilesOfGraph files g → IsGraphOutcome files (Err TooMany) → ⊥
not_kept_many files g kept (inl more) = (let few : length files ≤ 4096 = kept.are_files.few_modules in absurd (omega arith))
not_kept_many files g kept (inr (inl h)) =
    let same : h.names ≡ g.names = one_nodes files h.names g.names h.nodes kept.is_graph.nodes in
    let count = ap length same in
    let many : 8192 < length h.names = h.many in
    let few : length g.names ≤ 8192 = kept.few_names in
    absurd (omega arith)
not_kept_many files g kept (inr (inr h)) =
    let same : h.graph ≡ g = one_graph files h.graph g h.is_graph kept.is_graph in
    let count : length h.graph.pairs ≡ length g.pairs = ap (λ (x : ImportGraph). length x.pairs) same in
    let many : 65536 < length h.graph.pairs = h.many in
    let few : length g.pairs ≤ 65536 = kept.few_pairs in
    absurd (omega arith)

---- outcomes

pub outcome_is_unique : (files : List File) (o p : Result ImportGraph GraphError) → IsGraphOutcome files o → IsGraphOutcome files p → o ≡ p
outcome_is_unique files (Ok g) (Ok h) a b = ap Ok (one_graph files g h a.0.is_graph b.0.is_graph)
outcome_is_unique files (Ok g) (Err (TwoModules m c d)) a b = absurd (not_differ files m c d b a.0.are_files.differ)
outcome_is_unique files (Ok g) (Err (Cycle names)) a b = absurd (no_cycle files names a.1 b)
outcome_is_unique files (Ok g) (Err TooMany) a b = absurd (not_kept_many files g a.0 b)
outcome_is_unique files (Err (TwoModules m c d)) (Ok g) a b = absurd (not_differ files m c d a b.0.are_files.differ)
outcome_is_unique files (Err (TwoModules n a b)) (Err (TwoModules m c d)) s t = ap Err (one_two files n a b m c d s t)
outcome_is_unique files (Err (TwoModules m c d)) (Err (Cycle names)) a b = absurd (not_differ files m c d a b.kept.are_files.differ)
outcome_is_unique files (Err (TwoModules m c d)) (Err TooMany) a b = absurd (not_two_many files m c d a b)
outcome_is_unique files (Err (Cycle names)) (Ok g) a b = absurd (no_cycle files names b.1 a)
outcome_is_unique files (Err (Cycle names)) (Err (TwoModules m c d)) a b = absurd (not_differ files m c d b a.kept.are_files.differ)
outcome_is_unique files (Err (Cycle names)) (Err (Cycle others)) a b =
    let same : a.graph ≡ b.graph = one_graph files a.graph b.graph a.kept.is_graph b.kept.is_graph in
    let there : IsCycleOf files a.graph.names others = subst (λ (g : ImportGraph). IsCycleOf files g.names others) (sym same) b.is_cycle in
    ap (λ (x : List (List ℕ)). Err (Cycle x)) (one_cycle_of files a.graph.names names others a.is_cycle there)
outcome_is_unique files (Err (Cycle names)) (Err TooMany) a b = absurd (not_kept_many files a.graph a.kept b)
outcome_is_unique files (Err TooMany) (Ok g) a b = absurd (not_kept_many files g b.0 a)
outcome_is_unique files (Err TooMany) (Err (TwoModules m c d)) a b = absurd (not_two_many files m c d b a)
outcome_is_unique files (Err TooMany) (Err (Cycle names)) a b = absurd (not_kept_many files b.graph b.kept a)
outcome_is_unique files (Err TooMany) (Err TooMany) a b = refl

pub only_said : (files : List File) (answer : Result ImportGraph GraphFault) → HasOutcome answer (IsGraphOutcome files) → (o : Result ImportGraph GraphError) → IsGraphOutcome files o → HasOutcome answer (λ p. p ≡ o)
only_said files (Ok g) told o is = outcome_is_unique files (Ok g) o told is
only_said files (Err (faults.TwoModules name first second)) told o is = outcome_is_unique files (Err (TwoModules (string_bytes name) (string_bytes first) (string_bytes second))) o told is
only_said files (Err (faults.Cycle names)) told o is = outcome_is_unique files (Err (Cycle (texts names.items))) o told is
only_said files (Err faults.TooMany) told o is = outcome_is_unique files (Err TooMany) o told is
only_said files (Err faults.Memory) told o is = tt
