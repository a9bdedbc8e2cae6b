use Rattle.std.proofs.Common.{◌≡◌, ◌∙◌, ◌+◌, ℕ, length, refl, sym, true, false, arith}
use Rattle.cut_net.specs.Network.{name_of}
use Rattle.glob.specs.Globs.{Fits}
use Rattle.cut_rules.proofs.TableLaws.{matched_addition, matched_more, matched_none, matched_same}
use Rattle.cut_rules.proofs.table.SetTable.add_matching.Goals as goal
use Rattle.cut_rules.proofs.table.SetTable.add_matching.Goals.{then-matches, else-matches}

pub loop-node-init : goal.loop-node-init
loop-node-init c = matched_none c.args.context.now.net.now c.args.context.now.files.now c.args.self.now c.args.set (λ m. Fits c.in_ok-pattern.pattern (name_of c.args.context.now.net.now m))

pub add_range-any-requires-clause-sized : goal.add_range-any-requires-clause-sized
add_range-any-requires-clause-sized c =
    let nodes = c.nodes-node-end.ensures in
    let low = c.loop-node-test.true in
    (length c.args.context.now.files.now + length c.args.context.now.net.now.names, c.loop-node.invariant.sized _ c.requires.table.sized, omega arith)

pub loop-node-preserved : goal.loop-node-preserved
loop-node-preserved c =
    let net = c.args.context.now.net.now in
    let files = c.args.context.now.files.now in
    let fits = λ (m : ℕ). Fits c.in_ok-pattern.pattern (name_of net m) in
    let node = c.loop-node.node in
    let test = rw (c.as_bytes-in-loop-node.ensures.value ∙ c.name.ensures) at c.matches.ensures in
    elim c.if-matches.branch [
      | then-matches w ↦
          let is = w.add_range-any.ensures in
          let some : w.add_range-any.result ≡ true = is.any.1 (omega arith) in
          rw (w.self-is, w.any-is) (matched_more net files c.args.self.now c.args.set fits node c.loop-node.any c.loop-node.self w.add_range-any.new.self (test.0 w.if-matches.true) c.loop-node.invariant is.sets is.patterns is.modules is.count is.sized w.add_range-any.result some)
      | else-matches w ↦
          rw (w.self-is, w.any-is) (matched_same net files c.args.self.now c.args.set fits node c.loop-node.any c.loop-node.self (λ own. let bad : true ≡ false = sym (test.1 own) ∙ w.if-matches.false in cc) c.loop-node.invariant)
    ]

pub returns : goal.returns
returns c =
    let net = c.args.context.now.net.now in
    let same = rw c.as_bytes.ensures.value at c.in_ok-pattern.ensures in
    let nodes = c.nodes-node-end.ensures in
    let over = c.loop-node-test.false in
    matched_addition net c.args.context.now.files.now c.args.self.now c.loop-node.self _ c.args.set c.args.text.now (λ m. Fits c.in_ok-pattern.pattern (name_of net m)) c.loop-node.node c.loop-node.any
    (λ m. let law = same (name_of net m) in ((λ fit. law.1 fit), (λ own. law.0 own))) (omega arith) c.loop-node.invariant (λ m lt. omega arith) refl refl refl
