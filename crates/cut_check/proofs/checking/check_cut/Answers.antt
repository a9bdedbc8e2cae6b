use Rattle.std.proofs.Common.{◌≡◌, ◌<◌, ◌≤◌, ◌∙◌, length, get_or, subst, sym, refl, inl, inr}
use Rattle.std.proofs.lemmas.Bool.{both_ways, false≢true}
use Rattle.cut_net.specs.Pins.{IsFlowWithPins}
use Rattle.cut_net.specs.Lines.{removed_by, flow_by}
use Rattle.cut_check.specs.MatchedLines.{AreMatched}
use Rattle.cut_check.specs.Verdicts.{HasCut, IsCutVerdict}
use Rattle.cut_check.proofs.Parts.{AllMatched, read_modules, are_weights, are_weights_back, by_flow, flows, from_chain, if_ok, marks, stray_at, to_chain}
use Rattle.cut_check.proofs.checking.check_cut.Goals as goal

pub returns-in-Some-clause-exact : goal.returns-in-Some-clause-exact
returns-in-Some-clause-exact c =
    let net = c.args.net.now in
    let printed = c.args.cut.now.imports.items in
    let count = c.in_ok-printed.printed.count in
    let amounts = c.in_ok-printed.printed.amounts.items in
    let line = c.in-Some.line.now in
    let matched = subst (λ v. AreMatched net v count amounts) c.deref.ensures.value c.in_ok-printed.ensures in
    inl (stray_at net printed count amounts matched line
    (subst (λ v. count < length v) c.deref-2.ensures.value c.in-Some.ensures.lookup.3.0)
    (subst (λ v. line ≡ get_or v count line) c.deref-2.ensures.value c.in-Some.ensures.lookup.1))

pub returns-in-Some-get-clause-exact : goal.returns-in-Some-get-clause-exact
returns-in-Some-get-clause-exact c =
    let net = c.args.net.now in
    let printed = c.args.cut.now.imports.items in
    let printed_count = c.in_ok-printed.printed.count in
    let printed_amounts = c.in_ok-printed.printed.amounts.items in
    let printed_matched = subst (λ v. AreMatched net v printed_count printed_amounts) c.deref.ensures.value c.in_ok-printed.ensures in
    let all = read_modules net printed printed_count printed_amounts printed_matched (subst (λ v. length v ≤ printed_count) c.deref-2.ensures.value c.in_default.ensures.lookup.3) in
    let flow = c.args.cut.now.flow.items in
    let count = c.in_ok-flow.flow.count in
    let amounts = c.in_ok-flow.flow.amounts.items in
    let line = c.in-Some-get.line.now in
    let matched = subst (λ v. AreMatched net v count amounts) c.deref-3.ensures.value c.in_ok-flow.ensures in
    inr (
      all.in_order,
      stray_at net flow count amounts matched line
          (subst (λ v. count < length v) c.deref-4.ensures.value c.in-Some-get.ensures.lookup.3.0)
          (subst (λ v. line ≡ get_or v count line) c.deref-4.ensures.value c.in-Some-get.ensures.lookup.1),
    )

pub returns-then-branch-clause-exact : goal.returns-then-branch-clause-exact
returns-then-branch-clause-exact c =
    let net = c.args.net.now in
    let printed = c.args.cut.now.imports.items in
    let printed_count = c.in_ok-printed.printed.count in
    let printed_amounts = c.in_ok-printed.printed.amounts.items in
    let printed_matched = subst (λ v. AreMatched net v printed_count printed_amounts) c.deref.ensures.value c.in_ok-printed.ensures in
    let all = read_modules net printed printed_count printed_amounts printed_matched (subst (λ v. length v ≤ printed_count) c.deref-2.ensures.value c.in_default.ensures.lookup.3) in
    let flow = c.args.cut.now.flow.items in
    let count = c.in_ok-flow.flow.count in
    let amounts = c.in_ok-flow.flow.amounts.items in
    let matched = subst (λ v. AreMatched net v count amounts) c.deref-3.ensures.value c.in_ok-flow.ensures in
    let all_flow = read_modules net flow count amounts matched (subst (λ v. length v ≤ count) c.deref-4.ensures.value c.in_default-get.ensures.lookup.3) in
    let p = subst (AllMatched net printed) (sym c.deref-5.ensures.value) all in (
      record { printed_in_order = all.in_order; flow_in_order = all_flow.in_order },
      to_chain net printed c.deref-5.result.now p c.deref-6.result.now (c.deref-6.ensures.value ∙ c.in_ok-allowed.ensures) c.args.from c.args.to (c.in_ok-has_chain.ensures.0 c.if-branch.true),
    )

pub returns-then-not-has_right_weights-clause-exact : goal.returns-then-not-has_right_weights-clause-exact
returns-then-not-has_right_weights-clause-exact c =
    let net = c.args.net.now in
    let printed = c.args.cut.now.imports.items in
    let printed_count = c.in_ok-printed.printed.count in
    let printed_amounts = c.in_ok-printed.printed.amounts.items in
    let printed_matched = subst (λ v. AreMatched net v printed_count printed_amounts) c.deref.ensures.value c.in_ok-printed.ensures in
    let all = read_modules net printed printed_count printed_amounts printed_matched (subst (λ v. length v ≤ printed_count) c.deref-2.ensures.value c.in_default.ensures.lookup.3) in
    let flow = c.args.cut.now.flow.items in
    let count = c.in_ok-flow.flow.count in
    let amounts = c.in_ok-flow.flow.amounts.items in
    let matched = subst (λ v. AreMatched net v count amounts) c.deref-3.ensures.value c.in_ok-flow.ensures in
    let all_flow = read_modules net flow count amounts matched (subst (λ v. length v ≤ count) c.deref-4.ensures.value c.in_default-get.ensures.lookup.3) in
    let p = subst (AllMatched net printed) (sym c.deref-5.ensures.value) all in
    let w = subst (AllMatched net printed) (sym c.deref-7.ensures.value) all in
    let x = removed_by printed in
    let marked = marks net printed c.deref-7.result.now w in
    let weighs = are_weights_back net printed c.deref-7.result.now w c.args.cut.now.weight in (
      record {
        read = record { printed_in_order = all.in_order; flow_in_order = all_flow.in_order };
        no_chain = λ chain. both_ways c.in_ok-has_chain.field-0 c.if-branch.false
            (c.in_ok-has_chain.ensures.1 (from_chain net printed c.deref-5.result.now p c.deref-6.result.now (c.deref-6.ensures.value ∙ c.in_ok-allowed.ensures) c.args.from c.args.to chain));
      },
      λ h. false≢true ((c.if-not-has_right_weights.ensures x marked).1 (weighs h)),
    )

pub returns-clause-exact : goal.returns-clause-exact
returns-clause-exact c =
    let net = c.args.net.now in
    let printed = c.args.cut.now.imports.items in
    let printed_count = c.in_ok-printed.printed.count in
    let printed_amounts = c.in_ok-printed.printed.amounts.items in
    let printed_matched = subst (λ v. AreMatched net v printed_count printed_amounts) c.deref.ensures.value c.in_ok-printed.ensures in
    let all = read_modules net printed printed_count printed_amounts printed_matched (subst (λ v. length v ≤ printed_count) c.deref-2.ensures.value c.in_default.ensures.lookup.3) in
    let flow = c.args.cut.now.flow.items in
    let total = c.args.cut.now.weight in
    let count = c.in_ok-flow.flow.count in
    let amounts = c.in_ok-flow.flow.amounts.items in
    let matched = subst (λ v. AreMatched net v count amounts) c.deref-3.ensures.value c.in_ok-flow.ensures in
    let all_flow = read_modules net flow count amounts matched (subst (λ v. length v ≤ count) c.deref-4.ensures.value c.in_default-get.ensures.lookup.3) in
    let p = subst (AllMatched net printed) (sym c.deref-5.ensures.value) all in
    let w = subst (AllMatched net printed) (sym c.deref-7.ensures.value) all in
    let f = subst (AllMatched net flow) (sym c.deref-8.ensures.value) all_flow in
    let x = removed_by printed in
    let marked = marks net printed c.deref-7.result.now w in
    let weighs = are_weights net printed c.deref-7.result.now w total ((c.if-not-has_right_weights.ensures x marked).0 refl) in
    let cut : HasCut net c.args.from c.args.to printed flow = record {
      read = record { printed_in_order = all.in_order; flow_in_order = all_flow.in_order };
      no_chain = λ chain. both_ways c.in_ok-has_chain.field-0 c.if-branch.false
          (c.in_ok-has_chain.ensures.1 (from_chain net printed c.deref-5.result.now p c.deref-6.result.now (c.deref-6.ensures.value ∙ c.in_ok-allowed.ensures) c.args.from c.args.to chain));
    } in
    if_ok _ (IsCutVerdict net c.args.from c.args.to printed total flow) c.check_flow.result
    (λ v h. by_flow net c.args.from c.args.to printed total flow cut weighs v (h (flow_by flow) (flows net flow c.deref-8.result.now f))) c.check_flow.ensures

pub returns-clause-cheapest : goal.returns-clause-cheapest
returns-clause-cheapest c =
    let net = c.args.net.now in
    let printed = c.args.cut.now.imports.items in
    let flow = c.args.cut.now.flow.items in
    let total = c.args.cut.now.weight in
    if_ok (IsCutVerdict net c.args.from c.args.to printed total flow) _ c.check_flow.result
    (λ v h yes.
    let right = subst (IsCutVerdict net c.args.from c.args.to printed total flow) yes h in
    c.weak_duality_with_pins.ensures net c.args.from c.args.to (removed_by printed) (flow_by flow) c.invariants.ensures.network.between c.requires.from
    (record { removable = right.weights.removable; cut = right.cut })
    (subst (IsFlowWithPins net c.args.from c.args.to (flow_by flow)) right.weights.sum right.is_flow))
    (returns-clause-exact c)
