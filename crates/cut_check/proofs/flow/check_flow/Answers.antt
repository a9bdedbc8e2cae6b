use Rattle.std.proofs.Common.{◌<◌, sym, subst, arith, refl}
use Rattle.std.proofs.lemmas.Bool.{false≢true}
use Rattle.cut_net.specs.WellFormed.{AreBetween}
use Rattle.cut_check.specs.Sums.{AreAmounts, AreSums}
use Rattle.cut_check.proofs.Flows.{are_under, within, first_over, first_unbalanced, are_kept, kept_all, value_from, value_back}
use Rattle.cut_check.proofs.flow.check_flow.Goals as goal

pub sums_of-requires-clause-between : goal.sums_of-requires-clause-between
sums_of-requires-clause-between c = rw (c.imports-imports.ensures, c.nodes.ensures) c.invariants.ensures.network.between

pub returns-in-Some : goal.returns-in-Some
returns-in-Some c flow are =
    first_over c.args.net.now flow c.args.amounts.now are c.in-Some.over c.in-Some.ensures

pub returns-in-Some-first_unbalanced : goal.returns-in-Some-first_unbalanced
returns-in-Some-first_unbalanced c flow are =
    let net = c.args.net.now in
    let is = c.imports-imports.ensures in
    let into = c.in_ok-sums.sums.into.items in
    let out = c.in_ok-sums.sums.out.items in
    let sums = subst (λ v. AreSums v flow c.nodes.result into out) is (c.in_ok-sums.ensures.sums flow (subst (λ v. AreAmounts v flow c.args.amounts.now) (sym is) are)) in
    let between : AreBetween net.imports c.nodes.result = rw c.nodes.ensures c.invariants.ensures.network.between in
    let count = c.nodes.ensures in
    let count_too = c.nodes-2.ensures in
    let from = c.requires.from in
    let a_in : c.args.from < c.nodes.result = omega arith in
    let (in_m, not_a, not_b, differ, least) = c.in-Some-first_unbalanced.ensures in (
      are_under net flow c.args.amounts.now are c.in_default.ensures,
      first_unbalanced net c.nodes.result c.args.from c.args.to between a_in flow into out sums c.in-Some-first_unbalanced.module (omega arith) not_a not_b differ least,
    )

pub returns-then-not-has_value : goal.returns-then-not-has_value
returns-then-not-has_value c flow are =
    let net = c.args.net.now in
    let is = c.imports-imports.ensures in
    let into = c.in_ok-sums.sums.into.items in
    let out = c.in_ok-sums.sums.out.items in
    let sums = subst (λ v. AreSums v flow c.nodes.result into out) is (c.in_ok-sums.ensures.sums flow (subst (λ v. AreAmounts v flow c.args.amounts.now) (sym is) are)) in
    let between : AreBetween net.imports c.nodes.result = rw c.nodes.ensures c.invariants.ensures.network.between in
    let count = c.nodes.ensures in
    let count_too = c.nodes-2.ensures in
    let from = c.requires.from in
    let a_in : c.args.from < c.nodes.result = omega arith in (
      are_under net flow c.args.amounts.now are c.in_default.ensures,
      are_kept net c.nodes.result c.args.from c.args.to between a_in flow into out sums (λ m in_m. c.in_default-first_unbalanced.ensures m (omega arith)),
      λ value. false≢true (c.if-not-has_value.ensures.1 (value_back net c.nodes.result c.args.from c.args.to between a_in flow into out sums c.args.total value)),
    )

pub returns : goal.returns
returns c flow are =
    let net = c.args.net.now in
    let is = c.imports-imports.ensures in
    let into = c.in_ok-sums.sums.into.items in
    let out = c.in_ok-sums.sums.out.items in
    let sums = subst (λ v. AreSums v flow c.nodes.result into out) is (c.in_ok-sums.ensures.sums flow (subst (λ v. AreAmounts v flow c.args.amounts.now) (sym is) are)) in
    let between : AreBetween net.imports c.nodes.result = rw c.nodes.ensures c.invariants.ensures.network.between in
    let count = c.nodes.ensures in
    let count_too = c.nodes-2.ensures in
    let from = c.requires.from in
    let a_in : c.args.from < c.nodes.result = omega arith in
    record {
      within = within net flow c.args.amounts.now are c.in_default.ensures;
      kept = kept_all net c.nodes.result c.args.from c.args.to between a_in flow into out sums (λ m in_m. c.in_default-first_unbalanced.ensures m (omega arith));
      at_start = value_from net c.nodes.result c.args.from c.args.to between a_in flow into out sums c.args.total (c.if-not-has_value.ensures.0 refl);
    }
