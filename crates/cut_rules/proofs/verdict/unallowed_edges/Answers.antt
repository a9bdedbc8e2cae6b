use Rattle.std.proofs.Common.{◌≡◌, ◌+◌, ℕ, List, sym, ap, subst, arith, length}
use Rattle.std.specs.Prelude.{◌↔◌, Contains}
use Rattle.std.specs.Global.{Vec}
use Rattle.digraph.specs.declared.edge.Edge.{Edge}
use Rattle.cut_net.specs.declared.priced.Priced.{Priced}
use Rattle.cut_net.specs.Lines.{edge_of}
use Rattle.cut_net.specs.Network.{missing_item}
use Rattle.cut_rules.specs.Judged.{IsCountedBefore}
use Rattle.cut_rules.proofs.NodeMarks.{counted_more, counted_same}
use Rattle.cut_rules.proofs.verdict.unallowed_edges.Goals as goal
use Rattle.cut_rules.proofs.verdict.unallowed_edges.Goals.{then-not-allowed-number+in_ok-push, else-not-allowed-number}

pub loop-number-preserved : goal.loop-number-preserved
loop-number-preserved c =
    let net = c.args.net.now in
    let number = c.loop-number.number in
    elim c.if-not-allowed-number.branch [
      | then-not-allowed-number+in_ok-push w ↦ subst (λ (v : Vec Edge). (p : Edge) → Contains v.items p ↔ IsCountedBefore net c.args.allowed.now (number + 1) p) (sym w.edges-is)
          (counted_more net c.args.allowed.now number c.loop-number.edges.items c.loop-number.invariant _ w.push.new.self.items w.if-not-allowed-number.true (ap (λ (is : List Priced). edge_of (Rattle.std.proofs.Common.get_or is number missing_item)) c.imports-imports.ensures) w.in_ok-push.ensures.items)
      | else-not-allowed-number w ↦ subst (λ (v : Vec Edge). (p : Edge) → Contains v.items p ↔ IsCountedBefore net c.args.allowed.now (number + 1) p) (sym w.edges-is)
          (counted_same net c.args.allowed.now number c.loop-number.edges.items c.loop-number.invariant w.if-not-allowed-number.false)
    ]

pub returns-clause-elements : goal.returns-clause-elements
returns-clause-elements c p =
    let all = ap length c.imports-imports.ensures in
    let end : c.loop-number.number ≡ length c.args.net.now.imports = (let past = c.loop-number-test.false in let low = c.loop-number.auto.number-end in omega arith) in
    let same = c.sort_and_dedup.ensures.same p in
    let is = subst (λ (n : ℕ). Contains c.loop-number.edges.items p ↔ IsCountedBefore c.args.net.now c.args.allowed.now n p) end (c.loop-number.invariant p) in
    (λ has. is.0 (same.0 has), λ counted. same.1 (is.1 counted))
