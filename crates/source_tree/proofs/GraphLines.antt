-- The lines of a graph of imports, their tables, and what the network of the lines keeps.
use Rattle.std.proofs.Common.{◌≡◌, ℕ, ◌*◌, ◌^◌, ◌<◌, ◌≤◌, true, ltb, eqb, ◌&&◌, ◌||◌, List, [], ◌∷◌, ◌++◌, length, get_or, map, refl, sym, ap, ◌∙◌, arith, inl, inr, subst}
use Rattle.std.specs.Prelude.{All, AllPairs, Contains, filter}
use Rattle.std.proofs.lemmas.Bool.Decides.{nat_tests}
use Rattle.std.proofs.lemmas.List.{get_or-map, length-map}
use Rattle.std.proofs.lemmas.List.Elements.{All-append, All-contains, All-get_or, All-map, Contains-append_cases, Contains-append_left, Contains-get_or, filter-append}
use Rattle.std.proofs.lemmas.List.Kept.{AllPairs-cons}
use Rattle.std.proofs.lemmas.List.Sums.{sum_by-le}
use Rattle.std.proofs.lemmas.Option.{slice_get-get_or}
use Rattle.digraph.specs.declared.edge.Edge.{Edge}
use Rattle.ob_imports.specs.Graphs.{ImportGraph, IsGraph, name_of}
use Rattle.digraph.specs.Marks.{missing_item}
use Rattle.ob_imports.specs.Numbering.{index_or_len}
use Rattle.digraph.specs.Edges as edges
use Rattle.ob_imports.proofs.ByName.{acyclic_over}
use Rattle.digraph.proofs.Members.{from_map, in_map}
use Rattle.ob_imports.proofs.Places.{place_is}
use Rattle.scopes.specs.Scoped.{ModuleScopes}
use Rattle.cut_net.specs.declared.priced.Priced.{Priced}
use Rattle.texts.specs.Fields.{is_name}
use Rattle.source_tree.specs.GraphNet.{graph_entry, graph_import, graph_lines, graph_weight, AreLight}
use Rattle.cut_net.specs.Network as network
use Rattle.cut_net.specs.Network.{Network}
use Rattle.cut_net.specs.NetText.{NetLine, Module, Import, is_import, HaveDifferentImports, AreNamesOf, IsNetLine, IsNetOf, Mentions}
use Rattle.cut_net.specs.NetReading.{entry_line, AreTablesOf}
use Rattle.cut_net.specs.Cuts.{Any, Imports}
use Rattle.cut_net.specs.WellFormed.{IsAcyclic, IsNetwork, total_weight}

-- ---- lines of modules and of imports

modules_dropped : (names : List (List ℕ)) → filter is_import (map Module names) ≡ []
modules_dropped [] = refl
modules_dropped (n ∷ ns) = modules_dropped ns

imports_kept : (g : ImportGraph) (ss : List ModuleScopes) (ps : List Edge) → filter is_import (map (graph_import g ss) ps) ≡ map (graph_import g ss) ps
imports_kept g ss [] = refl
imports_kept g ss (p ∷ ps) = ap (λ (t : List NetLine). graph_import g ss p ∷ t) (imports_kept g ss ps)

entries_are : (g : ImportGraph) (ss : List ModuleScopes) (ps : List Edge) → map (graph_import g ss) ps ≡ map (entry_line g.names) (map (graph_entry g ss) ps)
entries_are g ss [] = refl
entries_are g ss (p ∷ ps) = ap (λ (t : List NetLine). graph_import g ss p ∷ t) (entries_are g ss ps)

module_apart : (n : List ℕ) (line : NetLine) → HaveDifferentImports (Module n) line
module_apart n (Module _) = tt
module_apart n (Import _ _ _) = tt

modules_apart : (names : List (List ℕ)) (lines : List NetLine) → AllPairs HaveDifferentImports lines → AllPairs HaveDifferentImports (map Module names ++ lines)
modules_apart [] lines h = h
modules_apart (n ∷ ns) lines h = AllPairs-cons HaveDifferentImports (Module n) (map Module ns ++ lines) (λ k d l. module_apart n (get_or (map Module ns ++ lines) k d)) (modules_apart ns lines h)

not_before : (a b c d : ℕ) → a ≡ b → c ≡ d → (ltb a b || (eqb a b && ltb c d)) ≡ true → ⊥
not_before a b c d e f h = grind (arith, nat_tests)

same_import : (m n k l : List ℕ) (w x : ℕ) → Import m n w ≡ Import k l x → (m ≡ k) × (n ≡ l) × (w ≡ x)
same_import m n k l w x e =
    let from : m ≡ k = cc in
    let to : n ≡ l = cc in
    let amount : w ≡ x = cc in
    (from, to, amount)

no_import : {P : Type 0} (x m n : List ℕ) (w : ℕ) → Module x ≡ Import m n w → P
no_import x m n w e = absurd cc

module _ (g : ImportGraph) (ss : List ModuleScopes) (graph : IsGraph g) where
  -- ---- modules by their names

  pub place_again : (v : ℕ) → v < length g.names → index_or_len g.names (name_of g v) ≡ v
  place_again v l = place_is g.names (name_of g v) v graph.apart (slice_get-get_or g.names v [] l)

  same_node : (v w : ℕ) → v < length g.names → w < length g.names → name_of g v ≡ name_of g w → v ≡ w
  same_node v w lv lw e = sym (place_again v lv) ∙ ap (index_or_len g.names) e ∙ place_again w lw

  -- an import among the lines is one of the graph
  pub import_of_line : (m n : List ℕ) (w : ℕ) → Contains (graph_lines g ss) (Import m n w) → (p : Edge) × Contains g.pairs p × (graph_import g ss p ≡ Import m n w)
  import_of_line m n w there = elim (Contains-append_cases (map Module g.names) (map (graph_import g ss) g.pairs) (Import m n w) there) [
    | inl named ↦ let x = from_map Module g.names (Import m n w) named in no_import x.0 m n w x.2
    | inr imported ↦ from_map (graph_import g ss) g.pairs (Import m n w) imported
  ]

  -- ---- the tables of the lines

  pub lines_listed : filter is_import (graph_lines g ss) ≡ map (entry_line g.names) (map (graph_entry g ss) g.pairs)
  lines_listed = filter-append is_import (map Module g.names) (map (graph_import g ss) g.pairs)
      ∙ ap (λ (t : List NetLine). t ++ filter is_import (map (graph_import g ss) g.pairs)) (modules_dropped g.names)
      ∙ imports_kept g ss g.pairs ∙ entries_are g ss g.pairs

  imports_apart : AllPairs HaveDifferentImports (map (graph_import g ss) g.pairs)
  imports_apart i j d less within =
      let long = length-map g.pairs (graph_import g ss) in
      let li : i < length g.pairs = omega arith in
      let lj : j < length g.pairs = omega arith in
      let p = get_or g.pairs i missing_item in
      let q = get_or g.pairs j missing_item in
      let bp = graph.between p (Contains-get_or g.pairs i missing_item li) in
      let bq = graph.between q (Contains-get_or g.pairs j missing_item lj) in
      let apart : HaveDifferentImports (graph_import g ss p) (graph_import g ss q) = λ e f. not_before p.from q.from p.to q.to (same_node p.from q.from bp.0 bq.0 e) (same_node p.to q.to bp.1 bq.1 f) (graph.ascend i j missing_item less lj) in
      rw (get_or-map (graph_import g ss) g.pairs i missing_item d li, get_or-map (graph_import g ss) g.pairs j missing_item d lj) apart

  mentioned : (x : List ℕ) (line : NetLine) → Contains (graph_lines g ss) line → Mentions x line → Contains g.names x
  mentioned x line there has = elim (Contains-append_cases (map Module g.names) (map (graph_import g ss) g.pairs) line there) [
    | inl named ↦
        let m = from_map Module g.names line named in
        let same : m.0 ≡ x = subst (Mentions x) (sym m.2) has in
        subst (Contains g.names) same m.1
    | inr imported ↦
        let p = from_map (graph_import g ss) g.pairs line imported in
        let b = graph.between p.0 p.1 in
        let ends : Mentions x (graph_import g ss p.0) = subst (Mentions x) (sym p.2) has in
        elim ends [
          | inl from ↦ subst (Contains g.names) from (Contains-get_or g.names p.0.from [] b.0)
          | inr to ↦ subst (Contains g.names) to (Contains-get_or g.names p.0.to [] b.1)
        ]
  ]

  are_names : AreNamesOf (graph_lines g ss) g.names
  are_names = record {
    once = graph.apart;
    named = λ x. (
      λ there. (Module x, Contains-append_left (map Module g.names) (map (graph_import g ss) g.pairs) (Module x) (in_map Module g.names x there), refl),
      λ (line, there, has). mentioned x line there has,
    );
  }

  module _ (light : AreLight (map (graph_entry g ss) g.pairs)) where
    light_import : (p : Edge) → Contains g.pairs p → graph_weight g ss p ≤ 16777216
    light_import p there = All-contains (λ (e : (ℕ × ℕ) × ℕ). e.1 ≤ 16777216) (map (graph_entry g ss) g.pairs) (graph_entry g ss p) light (in_map (graph_entry g ss) g.pairs p there)

    module _ (named : All (λ n. is_name n ≡ true) g.names) where
      good_import : (p : Edge) → Contains g.pairs p → IsNetLine (graph_import g ss p)
      good_import p there =
          let b = graph.between p there in
          let w = light_import p there in (
            All-get_or (λ n. is_name n ≡ true) g.names p.from [] b.0 named,
            All-get_or (λ n. is_name n ≡ true) g.names p.to [] b.1 named,
            omega arith,
          )

      pub graph_tables : AreTablesOf (graph_lines g ss) g.names (map (graph_entry g ss) g.pairs)
      graph_tables = record {
        each = All-append IsNetLine (map Module g.names) (map (graph_import g ss) g.pairs) (All-map IsNetLine Module g.names named)
            (All-map IsNetLine (graph_import g ss) g.pairs (λ k d l. good_import (get_or g.pairs k d) (Contains-get_or g.pairs k d l)));
        apart = modules_apart g.names (map (graph_import g ss) g.pairs) imports_apart;
        are_names = are_names;
        few_names = graph.few_names;
        few_imports = (let long = length-map g.pairs (graph_entry g ss) in let few = graph.few_pairs in omega arith);
        placed = All-map (λ (e : (ℕ × ℕ) × ℕ). (e.0.0 < length g.names) × (e.0.1 < length g.names)) (graph_entry g ss) g.pairs (λ k d l. graph.between (get_or g.pairs k d) (Contains-get_or g.pairs k d l));
        listed = lines_listed;
      }

      -- ---- the network of the lines

      module _ (net : Network) (is : IsNetOf (graph_lines g ss) net) where
        -- an import of the network is one of the graph
        import_of_net : (i : Priced) → Contains net.imports i → (p : Edge) × Contains g.pairs p × (graph_import g ss p ≡ Import (network.name_of net i.from) (network.name_of net i.to) i.amount)
        import_of_net i there =
            let b = is.between i there in
            import_of_line (network.name_of net i.from) (network.name_of net i.to) i.amount ((is.listed i b.0 b.1).0 there)

        light_net : length net.imports ≤ 65536 → total_weight net < 2 ^ 64
        light_net few =
            let each : All (λ (i : Priced). i.amount ≤ 16777216) net.imports = λ k d l.
            let i = get_or net.imports k d in
            let p = import_of_net i (Contains-get_or net.imports k d l) in
            let same : graph_weight g ss p.0 ≡ i.amount = (same_import _ _ _ _ _ _ p.2).2 in
            let little = light_import p.0 p.1 in
            omega arith in
            let all : total_weight net ≤ length net.imports * 16777216 = sum_by-le (λ (i : Priced). i.amount) 16777216 net.imports each in
            omega arith

        -- a chain of the network is one of the graph
        net_acyclic : IsAcyclic net.imports
        net_acyclic = acyclic_over (Imports net.imports Any) (edges.Leads g.pairs) (λ m. index_or_len g.names (network.name_of net m)) (λ m n (i, there, from, to, _).
            let (p, has, e) = import_of_net i there in
            let b = graph.between p has in
            let e_from : name_of g p.from ≡ network.name_of net m = (same_import _ _ _ _ _ _ e).0 ∙ ap (network.name_of net) from in
            let e_to : name_of g p.to ≡ network.name_of net n = (same_import _ _ _ _ _ _ e).1 ∙ ap (network.name_of net) to in
            let at_from : p.from ≡ index_or_len g.names (network.name_of net m) = sym (place_again p.from b.0) ∙ ap (index_or_len g.names) e_from in
            let at_to : p.to ≡ index_or_len g.names (network.name_of net n) = sym (place_again p.to b.1) ∙ ap (index_or_len g.names) e_to in
            let same : p ≡ record { from = index_or_len g.names (network.name_of net m); to = index_or_len g.names (network.name_of net n) } = λ k. record { from = at_from k; to = at_to k } in
            subst (Contains g.pairs) same has) graph.acyclic

        pub graph_network : length net.names ≤ 8192 → length net.imports ≤ 65536 → IsNetwork net
        graph_network few_names few_imports = record {
          named = λ k d within. let name = get_or net.names k d in
              let (line, there, has) = (is.named name).0 (Contains-get_or net.names k d within) in
              All-contains (λ n. is_name n ≡ true) g.names name named (mentioned name line there has);
          names_ascend = is.names_ascend;
          few_names = few_names;
          between = is.between;
          imports_ascend = is.imports_ascend;
          few_imports = few_imports;
          fits = light_net few_imports;
          acyclic = net_acyclic;
        }
