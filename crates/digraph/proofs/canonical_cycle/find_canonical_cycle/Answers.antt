-- The cycle core, and the canonical cycle in it.
use Rattle.std.proofs.Common.{◌≡◌, ℕ, ◌<◌, true, length, arith, subst}
use Rattle.std.proofs.lemmas.List.Elements.{All-weaker}
use Rattle.digraph.specs.Marks.{marked}
use Rattle.digraph.specs.Edges.{Leads}
use Rattle.digraph.proofs.Loops.{acyclic_without_endless}
use Rattle.digraph.proofs.Settling.{marked_below}
use Rattle.digraph.proofs.canonical_cycle.find_canonical_cycle.Goals as goal

pub returns-in_default-clause-none : goal.returns-in_default-clause-none
returns-in_default-clause-none c =
    let none = rw c.as_slice.ensures.value at c.in_default.ensures.none in
    acyclic_without_endless (Leads c.args.edges.now) (marked c.in_ok-core_nodes.core_nodes.marks.items) c.in_ok-core_nodes.ensures.core_nodes none

pub returns-clause-named : goal.returns-clause-named
returns-clause-named c = c.in_ok-cycle.ensures.named

pub returns-clause-within : goal.returns-clause-within
returns-clause-within c =
    let nodes = c.args.nodes in
    let core_nodes = c.in_ok-core_nodes.core_nodes in
    let size : length core_nodes.marks.items ≡ nodes = (let ok = core_nodes.marks.ok in let e = c.in_ok-core_nodes.ensures.size in omega arith) in
    let below : (m : ℕ) → marked core_nodes.marks.items m ≡ true → m < nodes = λ m on. subst (λ (n : ℕ). m < n) size (marked_below core_nodes.marks.items m on) in
    All-weaker (λ m. marked core_nodes.marks.items m ≡ true) (λ m. m < nodes) below c.in_ok-cycle.cycle.items c.in_ok-cycle.ensures.members
