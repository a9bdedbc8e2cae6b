use Rattle.std.proofs.Common.{◌≡◌, ◌≢◌, ◌+◌, sym, subst, arith}
use Rattle.std.specs.Prelude.{All, AllPairs}
use Rattle.residual_graph.specs.declared.arc.ResidualArc.{ResidualArc}
use Rattle.residual_graph.specs.Flows.{IsBalanced}
use Rattle.residual_graph.specs.Graphs.{HasResidual, HasArc, IsResidualWalk}
use Rattle.cut_plain.proofs.maximum_flow.raise_flow.Goals as goal

pub augment-requires-clause-known : goal.augment-requires-clause-known
augment-requires-clause-known c =
    let found = c.in_ok-path.ensures c.args.from c.requires.tree in
    subst (All (HasArc c.args.graph.now.arcs)) (sym c.deref.ensures.value) found.is_path.known

pub augment-requires-clause-once : goal.augment-requires-clause-once
augment-requires-clause-once c =
    let found = c.in_ok-path.ensures c.args.from c.requires.tree in
    subst (AllPairs (λ (s t : ResidualArc). s.arc ≢ t.arc)) (sym c.deref.ensures.value) found.is_path.once

pub returns-clause-raises : goal.returns-clause-raises
returns-clause-raises c =
    let arcs = c.args.graph.now.arcs in
    let found = c.in_ok-path.ensures c.args.from c.requires.tree in
    let leads = subst (λ v. IsResidualWalk arcs c.args.from v c.args.to) (sym c.deref.ensures.value) found.is_path.leads in
    let some = c.augment.ensures.most 1 (omega arith) (subst (All (HasResidual arcs)) (sym c.deref.ensures.value) found.left) in
    let once = c.augment.ensures.raises c.args.from c.args.to c.requires.apart leads in
    let rises = c.in_ok-blocking_flow.ensures.rises in (
      c.augment.result + rises.0,
      omega arith,
      λ value f.
          let e : value + c.augment.result + rises.0 ≡ value + (c.augment.result + rises.0) = omega arith in
          subst (IsBalanced c.blocking_flow.new.graph.arcs c.args.from c.args.to) e (rises.1 (value + c.augment.result) (once value f)),
    )
