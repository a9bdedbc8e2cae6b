-- The cycle of the modules in the order of their names.
use Rattle.std.proofs.Common.{◌≡◌, ◌<◌, ℕ, length, map, sym, subst, arith}
use Rattle.std.specs.Prelude.{All, Contains, ◌↔◌}
use Rattle.std.specs.String.{string_bytes}
use Rattle.std.proofs.lemmas.List.{length-map}
use Rattle.digraph.specs.declared.edge.Edge.{Edge}
use Rattle.digraph.specs.Chains.{IsAcyclic}
use Rattle.digraph.specs.Cycle.{IsCanonicalCycle}
use Rattle.digraph.specs.Edges.{AreBetween, Leads}
use Rattle.digraph.specs.Ranks.{by_ranks}
use Rattle.ob_imports.specs.Names.{texts}
use Rattle.ob_imports.proofs.RankedEdges.{order_long, others_acyclic, others_between, others_cycle}
use Rattle.ob_imports.proofs.build.find_cycle.Goals as goal

pub ranks_of-requires-clause-few : goal.ranks_of-requires-clause-few
ranks_of-requires-clause-few c =
    let long = order_long (texts c.args.names.now) c.args.order.now c.requires.order c.requires.once in
    let count = length-map c.args.names.now string_bytes in
    let few = c.requires.few in
    omega arith

pub ranks_of-requires-clause-within : goal.ranks_of-requires-clause-within
ranks_of-requires-clause-within c =
    let long = order_long (texts c.args.names.now) c.args.order.now c.requires.order c.requires.once in
    subst (λ (n : ℕ). All (λ v. v < n) c.args.order.now) (sym long) c.requires.order.within

pub renumber_edges-requires : goal.renumber_edges-requires
renumber_edges-requires c =
    let long = order_long (texts c.args.names.now) c.args.order.now c.requires.order c.requires.once in
    let count = length-map c.args.names.now string_bytes in
    let size = c.in_ok-ranks.ensures.size in
    let same : length c.args.names.now ≡ length c.in_ok-ranks.ranks.items = omega arith in
    record { between = rw c.as_slice.ensures.value (subst (AreBetween c.args.pairs.now) same c.requires.between) }

pub find_canonical_cycle-requires-clause-between : goal.find_canonical_cycle-requires-clause-between
find_canonical_cycle-requires-clause-between c =
    let names = texts c.args.names.now in
    let count = length-map c.args.names.now string_bytes in
    let between : AreBetween c.args.pairs.now (length names) = subst (AreBetween c.args.pairs.now) (sym count) c.requires.between in
    let same : (p : Edge) → Contains c.in_ok-others.others.items p ↔ Contains (map (by_ranks c.in_ok-ranks.ranks.items) c.args.pairs.now) p = rw c.as_slice.ensures.value at c.in_ok-others.ensures.same in
    rw c.as_slice-2.ensures.value (others_between names c.args.order.now c.requires.order c.requires.once c.in_ok-ranks.ranks.items c.in_ok-ranks.ensures c.args.pairs.now c.in_ok-others.others.items between same)

pub find_canonical_cycle-requires-clause-few_nodes : goal.find_canonical_cycle-requires-clause-few_nodes
find_canonical_cycle-requires-clause-few_nodes c =
    let long = order_long (texts c.args.names.now) c.args.order.now c.requires.order c.requires.once in
    let count = length-map c.args.names.now string_bytes in
    let few = c.requires.few in
    omega arith

pub returns-in-None-clause-none : goal.returns-in-None-clause-none
returns-in-None-clause-none c =
    let names = texts c.args.names.now in
    let count = length-map c.args.names.now string_bytes in
    let between : AreBetween c.args.pairs.now (length names) = subst (AreBetween c.args.pairs.now) (sym count) c.requires.between in
    let same : (p : Edge) → Contains c.in_ok-others.others.items p ↔ Contains (map (by_ranks c.in_ok-ranks.ranks.items) c.args.pairs.now) p = rw c.as_slice.ensures.value at c.in_ok-others.ensures.same in
    let none : IsAcyclic (Leads c.in_ok-others.others.items) = rw c.as_slice-2.ensures.value at (rw c.in-None.is at c.in_ok-find_canonical_cycle.ensures.none) in
    others_acyclic names c.args.order.now c.requires.order c.requires.once c.in_ok-ranks.ranks.items c.in_ok-ranks.ensures c.args.pairs.now c.in_ok-others.others.items between same none

pub names_at-requires-clause-places : goal.names_at-requires-clause-places
names_at-requires-clause-places c = rw c.as_slice-in-Some.ensures.value (rw c.in-Some.is at c.in_ok-find_canonical_cycle.ensures.within)

pub returns-clause-named : goal.returns-clause-named
returns-clause-named c files led =
    let names = texts c.args.names.now in
    let count = length-map c.args.names.now string_bytes in
    let between : AreBetween c.args.pairs.now (length names) = subst (AreBetween c.args.pairs.now) (sym count) c.requires.between in
    let same : (p : Edge) → Contains c.in_ok-others.others.items p ↔ Contains (map (by_ranks c.in_ok-ranks.ranks.items) c.args.pairs.now) p = rw c.as_slice.ensures.value at c.in_ok-others.ensures.same in
    let named : IsCanonicalCycle (Leads c.in_ok-others.others.items) c.in-Some.cycle.items = rw c.as_slice-2.ensures.value at (rw c.in-Some.is at c.in_ok-find_canonical_cycle.ensures.named) in
    others_cycle names c.args.order.now c.requires.order c.requires.once c.in_ok-ranks.ranks.items c.in_ok-ranks.ensures c.args.pairs.now c.in_ok-others.others.items between same files led c.in-Some.cycle.items _ named
    (rw c.as_slice-in-Some.ensures.value at c.in_ok-names_at-in-Some.ensures)
