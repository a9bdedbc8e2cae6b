use Rattle.std.proofs.Common.{List, subst}
use Rattle.std.proofs.lemmas.Result.{IfOk-weaker}
use Rattle.ob_scope.specs.declared.crossing_uses.Crossing.{Crossing}
use Rattle.source_tree.specs.Crossings.{AreSpans}
use Rattle.source_tree.proofs.crossing.uses_in_table.Goals as goal

pub returns : goal.returns
returns c =
    let found = c.in_ok-found.found.items in
    IfOk-weaker c.crossing_spans.result _ _
    (λ spans are. (found, c.in_ok-found.ensures, subst (λ (cs : List Crossing). AreSpans c.args.bytes.now c.args.tokens.now cs spans.items) c.as_slice.ensures.value are))
    c.crossing_spans.ensures
