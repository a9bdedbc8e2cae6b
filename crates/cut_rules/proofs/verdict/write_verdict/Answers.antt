use Rattle.std.proofs.Common.{◌≡◌, ◌<◌, ◌∙◌, ◌++◌, ◌∷◌, [], ℕ, Bool, false, List, Ok, length, get_or, map, refl, sym, ap, subst, codes, arith}
use Rattle.std.specs.Prelude.{◌==◌, ◌↔◌, Contains, if◌then◌else◌, not}
use Rattle.std.specs.String.{string_bytes}
use Rattle.std.proofs.lemmas.List.Elements.{Contains-get_or}
use Rattle.std.proofs.lemmas.Result.{err_from_is_err_and}
use Rattle.texts.specs.Places.{style_of, writer_style}
use Rattle.digraph.specs.declared.edge.Edge.{Edge}
use Rattle.cut_net.specs.Network.{missing_item}
use Rattle.cut_rules.specs.Judged.{IsUnallowed}
use Rattle.cut_rules.specs.Verdicts.{is_clean, stale_of}
use Rattle.cut_rules.proofs.Ending.{clean_is, empty_is, ended, stale_lines, stopped_at_end, stopped_at_stale, violations_front}
use Rattle.cut_rules.proofs.verdict.write_verdict.Goals as goal
use Rattle.cut_rules.proofs.verdict.write_verdict.Goals.{then-not-has_violations, else-not-has_violations}

pub graph_of-requires-clause-between : goal.graph_of-requires-clause-between
graph_of-requires-clause-between g c = subst (λ (es : List Edge). (p : Edge) → Contains es p → (p.from < c.nodes.result) × (p.to < c.nodes.result)) (sym c.as_slice-2.ensures.value) (λ p has.
    let (k, lt, free, is) = (c.in-Ok.ensures.elements p).0 has in
    let ends = c.invariants.ensures.network.between (get_or c.args.net.now.imports k missing_item) (Contains-get_or c.args.net.now.imports k missing_item lt) in
    let from = ap (λ (q : Edge). q.from) is in
    let to = ap (λ (q : Edge). q.to) is in
    let low = ends.0 in
    let high = ends.1 in
    let names = c.nodes.ensures in
    (omega arith, omega arith))

pub write_rules-requires-clause-graph : goal.write_rules-requires-clause-graph
write_rules-requires-clause-graph g c =
    let edges = c.in-Ok-graph_of.ensures.edges ∙ c.as_slice-2.ensures.value in
    let counted = rw c.as_slice.ensures.value at c.in-Ok.ensures.elements in
    record {
      is_graph = c.in-Ok-graph_of.ensures.graph;
      nodes = (let nodes = c.in-Ok-graph_of.ensures.nodes in let names = c.nodes.ensures in let ok = c.in-Ok-graph_of.graph.after.ok in omega arith);
      counted = λ p. subst (λ (es : List Edge). Contains es p ↔ IsUnallowed c.args.net.now c.args.rules.now.allowed.items p) (sym edges) (counted p);
    }

pub returns-in_err-has_violations-clause-prefix : goal.returns-in_err-has_violations-clause-prefix
returns-in_err-has_violations-clause-prefix g c =
    let p = err_from_is_err_and c.from_residual.result c.from_residual.ensures.1 in
    let prefix = rw (c.new-2.ensures.bytes, c.new.ensures) at c.in_err-has_violations.ensures.prefix in
    rw p.1 (λ files pieces elements vs stale are_vs are_stale. violations_front (style_of c.args.style) c.args.net.now c.args.sites.now _ (g.S.Sink.taken c.args.sink.now) _ vs stale (prefix files pieces elements vs are_vs))

pub returns-in_err-write_stale-clause-prefix : goal.returns-in_err-write_stale-clause-prefix
returns-in_err-write_stale-clause-prefix g c =
    let p = err_from_is_err_and c.from_residual-in_err-write_stale.result c.from_residual-in_err-write_stale.ensures.1 in
    rw p.1 (λ files pieces elements vs stale are_vs are_stale.
    stopped_at_stale (style_of c.args.style) (writer_style c.new.result) c.new.ensures c.args.net.now c.args.sites.now files pieces c.args.rules.now elements (string_bytes c.new-2.result) c.new-2.ensures.bytes c.in_ok-has_violations.has_violations (g.S.Sink.taken c.args.sink.now)
    (g.S.Sink.taken c.write_rules.new.sink) (string_bytes c.write_rules.new.lines.text) (c.in_ok-has_violations.ensures.written files pieces elements) (g.S.Sink.taken c.write_stale.new.sink) c.in_err-write_stale.ensures.prefix vs stale are_vs are_stale)

pub returns-in_err-write_fully-clause-prefix : goal.returns-in_err-write_fully-clause-prefix
returns-in_err-write_fully-clause-prefix g c =
    let p = err_from_is_err_and c.from_residual-in_err-write_fully.result c.from_residual-in_err-write_fully.ensures.1 in
    rw p.1 (λ files pieces elements vs stale are_vs are_stale.
    stopped_at_end (style_of c.args.style) (writer_style c.new.result) c.new.ensures c.args.net.now c.args.sites.now files pieces c.args.rules.now elements (string_bytes c.new-2.result) c.new-2.ensures.bytes c.in_ok-has_violations.has_violations (g.S.Sink.taken c.args.sink.now)
    (g.S.Sink.taken c.write_rules.new.sink) (string_bytes c.write_rules.new.lines.text) (c.in_ok-has_violations.ensures.written files pieces elements) (g.S.Sink.taken c.write_stale.new.sink) (g.S.Sink.taken c.write_fully.new.sink) (string_bytes c.write_stale.new.lines.text)
    c.in_ok-write_stale.ensures.written c.if-not-has_violations.clean
    (elim c.if-not-has_violations.branch [
      | then-not-has_violations w ↦ clean_is (c.in_ok-has_violations.ensures.written files pieces elements).0 c.args.rules.now.stale.items c.in_ok-has_violations.has_violations w.is_empty-clean.result c.if-not-has_violations.clean (c.in_ok-has_violations.ensures.written files pieces elements).2 (empty_is c.args.rules.now.stale _ w.is_empty-clean.ensures)
          (w.clean-is ∙ ap (λ (b : Bool). if b then false else w.is_empty-clean.result) (sym w.if-not-has_violations.true))
      | else-not-has_violations w ↦ clean_is (c.in_ok-has_violations.ensures.written files pieces elements).0 c.args.rules.now.stale.items c.in_ok-has_violations.has_violations (length c.args.rules.now.stale.items == 0) c.if-not-has_violations.clean (c.in_ok-has_violations.ensures.written files pieces elements).2 refl
          (w.clean-is ∙ ap not w.if-not-has_violations.false ∙ ap (λ (b : Bool). if b then false else (length c.args.rules.now.stale.items == 0)) (sym w.if-not-has_violations.false))
    ])
    c.verdict_bytes.result.now (c.verdict_bytes.ensures ∙ ap (λ (t : List ℕ). if c.if-not-has_violations.clean then codes "yes" ++ 10 ∷ [] else t) c.as_str.ensures.value) c.in_err-write_fully.ensures.writes vs stale are_vs are_stale)

pub returns-clause-exact : goal.returns-clause-exact
returns-clause-exact g c = λ files pieces elements.
    let clean : c.if-not-has_violations.clean ≡ is_clean (c.in_ok-has_violations.ensures.written files pieces elements).0 (map stale_of c.args.rules.now.stale.items) = elim c.if-not-has_violations.branch [
      | then-not-has_violations w ↦ clean_is (c.in_ok-has_violations.ensures.written files pieces elements).0 c.args.rules.now.stale.items c.in_ok-has_violations.has_violations w.is_empty-clean.result c.if-not-has_violations.clean (c.in_ok-has_violations.ensures.written files pieces elements).2 (empty_is c.args.rules.now.stale _ w.is_empty-clean.ensures)
          (w.clean-is ∙ ap (λ (b : Bool). if b then false else w.is_empty-clean.result) (sym w.if-not-has_violations.true))
      | else-not-has_violations w ↦ clean_is (c.in_ok-has_violations.ensures.written files pieces elements).0 c.args.rules.now.stale.items c.in_ok-has_violations.has_violations (length c.args.rules.now.stale.items == 0) c.if-not-has_violations.clean (c.in_ok-has_violations.ensures.written files pieces elements).2 refl
          (w.clean-is ∙ ap not w.if-not-has_violations.false ∙ ap (λ (b : Bool). if b then false else (length c.args.rules.now.stale.items == 0)) (sym w.if-not-has_violations.false))
    ] in (
      (c.in_ok-has_violations.ensures.written files pieces elements).0,
      map stale_of c.args.rules.now.stale.items,
      (c.in_ok-has_violations.ensures.written files pieces elements).1,
      stale_lines c.args.net.now files pieces c.args.rules.now elements,
      clean,
      ended (style_of c.args.style) (writer_style c.new.result) c.new.ensures c.args.net.now c.args.sites.now files pieces c.args.rules.now elements (string_bytes c.new-2.result) c.new-2.ensures.bytes c.in_ok-has_violations.has_violations (g.S.Sink.taken c.args.sink.now)
          (g.S.Sink.taken c.write_rules.new.sink) (string_bytes c.write_rules.new.lines.text) (c.in_ok-has_violations.ensures.written files pieces elements) (g.S.Sink.taken c.write_stale.new.sink) (g.S.Sink.taken c.write_fully.new.sink) (string_bytes c.write_stale.new.lines.text)
          c.in_ok-write_stale.ensures.written c.if-not-has_violations.clean clean (Ok tt) c.verdict_bytes.result.now
          (c.verdict_bytes.ensures ∙ ap (λ (t : List ℕ). if c.if-not-has_violations.clean then codes "yes" ++ 10 ∷ [] else t) c.as_str.ensures.value) c.in_ok-write_fully.ensures.writes,
    )
