use Rattle.std.proofs.Common.{◌≡◌, ℕ, ◌+◌, ◌<◌, ◌≤◌, List, ◌++◌, length, map, ap, refl, sym, ◌∙◌, arith, subst}
use Rattle.std.proofs.lemmas.List.{get_or_default, map-append}
use Rattle.std.proofs.lemmas.List.Elements.{All-nil}
use Rattle.digraph.specs.declared.edge.Edge.{Edge}
use Rattle.ob_imports.specs.Graphs.{imported}
use Rattle.scopes.specs.Scoped.{ModuleScopes}
use Rattle.scopes.specs.Weights.{uses_of_import}
use Rattle.cut_net.specs.declared.priced.Priced.{Priced}
use Rattle.source_tree.specs.GraphNet.{entry_to, graph_entry, no_scopes, ranked, scopes_at, AreLight}
use Rattle.source_tree.proofs.GraphTables.{across_le, before_all, before_none, before_of, light_next, modules_next}
use Rattle.source_tree.proofs.from_graph.weighted_imports.Goals as goal

pub loop-from-init : goal.loop-from-init
loop-from-init c =
    let g = c.args.graph.now in
    let f = graph_entry g c.args.scopes.now in
    let none = sym (before_none g.pairs) in
    record {
      entries = c.new-imports.ensures.items ∙ ap (λ (ps : List Edge). map (ranked c.args.ranks.now) (map f ps)) none;
      light = subst (λ (ps : List Edge). AreLight (map f ps)) none (All-nil _);
    }

pub loop-from-preserved : goal.loop-from-preserved
loop-from-preserved c =
    let g = c.args.graph.now in
    let ss = c.args.scopes.now in
    let h = ranked c.args.ranks.now in
    let v = c.loop-from.from in
    let own = c.index-scopes-from.result in
    let test = c.loop-from-test.true in
    let count = c.modules-from-end.ensures in
    let as_many = c.requires.as_many in
    let within : v < length ss = omega arith in
    let is : own ≡ scopes_at ss v = c.index-scopes-from.is ∙ sym (get_or_default ss v no_scopes own within) in
    let each : (name : List ℕ) → uses_of_import own.aliases name ≤ 16777216 = λ name. (let few = c.invariants-in-loop-from.ensures.few in let less = across_le own.aliases name in omega arith) in
    let es = map (graph_entry g ss) (before_of v g.pairs) in
    let row = map (entry_to g own v) (imported g.pairs v) in
    let more : es ++ row ≡ map (graph_entry g ss) (before_of (v + 1) g.pairs) = ap (λ (s : ModuleScopes). es ++ map (entry_to g s v) (imported g.pairs v)) is ∙ modules_next g ss v g.pairs es c.invariants.ensures.ascend refl in
    record {
      entries = c.in_ok-append_weighted_imports.ensures.last ∙ ap (λ (t : List Priced). t ++ map h row) c.loop-from.invariant.entries ∙ sym (map-append h es row) ∙ ap (map h) more;
      light = subst AreLight more (light_next g own v es (imported g.pairs v) c.loop-from.invariant.light each);
    }

pub returns-clause-entries : goal.returns-clause-entries
returns-clause-entries c =
    let g = c.args.graph.now in
    let f = graph_entry g c.args.scopes.now in
    let test = c.loop-from-test.false in
    let count = c.modules-from-end.ensures in
    let bound = c.loop-from.auto.from-end in
    let end : c.loop-from.from ≡ g.modules = omega arith in
    let all : before_of c.loop-from.from g.pairs ≡ g.pairs = ap (λ (n : ℕ). before_of n g.pairs) end ∙ before_all g.modules g.pairs c.invariants.ensures.of_tree in
    c.loop-from.invariant.entries ∙ ap (λ (ps : List Edge). map (ranked c.args.ranks.now) (map f ps)) all

pub returns-clause-light : goal.returns-clause-light
returns-clause-light c =
    let g = c.args.graph.now in
    let f = graph_entry g c.args.scopes.now in
    let test = c.loop-from-test.false in
    let count = c.modules-from-end.ensures in
    let bound = c.loop-from.auto.from-end in
    let end : c.loop-from.from ≡ g.modules = omega arith in
    let all : before_of c.loop-from.from g.pairs ≡ g.pairs = ap (λ (n : ℕ). before_of n g.pairs) end ∙ before_all g.modules g.pairs c.invariants.ensures.of_tree in
    subst (λ (ps : List Edge). AreLight (map f ps)) all c.loop-from.invariant.light
