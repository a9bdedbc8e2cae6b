use Rattle.std.proofs.Common.{ℕ, Bool, List, get_or, subst, arith}
use Rattle.std.specs.Prelude.{Contains}
use Rattle.std.proofs.lemmas.List.Elements.{Contains-get_or}
use Rattle.digraph.specs.Search.{IsSearch}
use Rattle.cut_rules.proofs.reading.Rules.search.Goals as goal

pub search_from-requires-clause-within : goal.search_from-requires-clause-within
search_from-requires-clause-within c = λ k d lt.
    let items = c.as_slice.result.now in
    let low = c.in_ok-starts.ensures.within (get_or items k d) (subst (λ (l : List ℕ). Contains l (get_or items k d)) c.as_slice.ensures.value (Contains-get_or items k d lt)) in
    let nodes = c.requires.nodes in
    omega arith

pub returns : goal.returns
returns c =
    record {
      starts = c.in_ok-starts.starts.items;
      barrier = c.in_ok-barrier.barrier.items;
      search = subst (λ (l : List ℕ). IsSearch c.args.graph.now.edges.now l c.in_ok-barrier.barrier.items c.in_ok-search.search) c.as_slice.ensures.value (subst (λ (l : List Bool). IsSearch c.args.graph.now.edges.now c.as_slice.result.now l c.in_ok-search.search) c.as_slice-2.ensures.value c.in_ok-search.ensures);
      starts_within = λ m has. c.in_ok-starts.ensures.within m has;
      starts_are = λ m low. c.in_ok-starts.ensures.elements m low;
      barrier_are = λ m low. c.in_ok-barrier.ensures m low;
      size = (let size = c.in_ok-targets.ensures.size in let ok = c.in_ok-targets.targets.ok in omega arith);
      targets_are = λ n low. c.in_ok-targets.ensures.elements n low;
    }
