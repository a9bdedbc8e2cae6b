use Rattle.std.proofs.Common.{◌≡◌, ◌+◌, ℕ, Bool, List, true, false, get_or, take, vec_len, refl, ap, sym, subst, ◌∙◌, arith}
use Rattle.std.specs.Prelude.{◌↔◌, Contains}
use Rattle.std.specs.Global.{Vec}
use Rattle.std.proofs.lemmas.List.{get_or-replicate, take_all}
use Rattle.std.proofs.lemmas.List.Elements.{Contains-get_or}
use Rattle.digraph.specs.Marks.{marked}
use Rattle.cut_rules.specs.declared.rule.Rule.{Rule}
use Rattle.cut_rules.specs.Judged.{IsFlagSet, IsForbiddenByMayRules}
use Rattle.cut_rules.proofs.NodeMarks.{outside_first, outside_more, outside_same}
use Rattle.cut_rules.proofs.reading.Rules.may_targets.Goals as goal
use Rattle.cut_rules.proofs.reading.Rules.may_targets.Goals.{then-is_may_of+in_ok-members, else-is_may_of}

pub set_flags-requires : goal.set_flags-requires
set_flags-requires c = λ k d lt.
    let items = c.as_slice.result.now in
    let low = c.in_ok-own.ensures.within (get_or items k d) (subst (λ (l : List ℕ). Contains l (get_or items k d)) c.as_slice.ensures.value (Contains-get_or items k d lt)) in
    let long = c.in_ok-flags.ensures.len in
    let nodes = c.nodes.ensures in
    omega arith

pub loop-rule-init : goal.loop-rule-init
loop-rule-init c = record {
  size = (let long = c.in_ok-flags.ensures.len in let nodes = c.nodes.ensures in let size = c.set_flags.ensures.size in omega arith);
  elements = λ n low.
      let set = subst (λ (l : List ℕ). IsFlagSet l false c.in_ok-flags.flags.items c.set_flags.new.flags.items n) c.as_slice.ensures.value (c.set_flags.ensures.flags n) in
      let all : marked c.in_ok-flags.flags.items n ≡ true = ap (λ (ms : List Bool). marked ms n) (c.in_ok-flags.ensures.items_if_clones_equal (λ y e. e)) ∙ get_or-replicate c.nodes.result n true false (let nodes = c.nodes.ensures in omega arith) in
      outside_first c.args.self.now c.args.first n c.in_ok-own.own.items c.in_ok-flags.flags.items c.set_flags.new.flags.items all set (c.in_ok-own.ensures.elements n low);
}

pub set_flags-requires-then-is_may_of : goal.set_flags-requires-then-is_may_of
set_flags-requires-then-is_may_of c = λ k d lt.
    let items = c.as_slice-then-is_may_of.result.now in
    let low = c.in_ok-members.ensures.within (get_or items k d) (subst (λ (l : List ℕ). Contains l (get_or items k d)) c.as_slice-then-is_may_of.ensures.value (Contains-get_or items k d lt)) in
    let long = c.loop-rule.invariant.size in
    omega arith

pub loop-rule-preserved : goal.loop-rule-preserved
loop-rule-preserved c = elim c.if-is_may_of.branch [
  | then-is_may_of+in_ok-members w ↦ record {
    size = ap vec_len w.flags-is ∙ w.set_flags-then-is_may_of.ensures.size ∙ c.loop-rule.invariant.size;
    elements = λ n low.
        let set = subst (λ (l : List ℕ). IsFlagSet l false c.loop-rule.flags.items w.set_flags-then-is_may_of.new.flags.items n) w.as_slice-then-is_may_of.ensures.value (w.set_flags-then-is_may_of.ensures.flags n) in
        subst (λ (v : Vec Bool). (marked v.items n ≡ true) ↔ IsForbiddenByMayRules c.args.self.now (take (c.loop-rule.rule-index + 1) c.as_slice-rule-items.result.now) c.args.first n) (sym w.flags-is)
        (outside_more c.args.self.now c.args.first n c.as_slice-rule-items.result.now c.loop-rule.rule-index _ c.loop-rule-test.true c.loop-rule.flags.items (c.loop-rule.invariant.elements n low) w.in_ok-members.members.items w.set_flags-then-is_may_of.new.flags.items (w.if-is_may_of.ensures.0 refl) set (w.in_ok-members.ensures.elements n low));
  }
  | else-is_may_of w ↦ record {
    size = ap vec_len w.flags-is ∙ c.loop-rule.invariant.size;
    elements = λ n low. subst (λ (v : Vec Bool). (marked v.items n ≡ true) ↔ IsForbiddenByMayRules c.args.self.now (take (c.loop-rule.rule-index + 1) c.as_slice-rule-items.result.now) c.args.first n) (sym w.flags-is)
        (outside_same c.args.self.now c.args.first n c.as_slice-rule-items.result.now c.loop-rule.rule-index _ c.loop-rule-test.true c.loop-rule.flags.items (c.loop-rule.invariant.elements n low) (λ may. let bad : false ≡ true = w.if-is_may_of.ensures.1 may in cc));
  }
]

pub returns-clause-elements : goal.returns-clause-elements
returns-clause-elements c = λ n low.
    let past = c.loop-rule-test.false in
    let all = take_all c.loop-rule.rule-index c.as_slice-rule-items.result.now (omega arith) ∙ c.as_slice-rule-items.ensures.value in
    subst (λ (l : List Rule). (marked c.loop-rule.flags.items n ≡ true) ↔ IsForbiddenByMayRules c.args.self.now l c.args.first n) all (c.loop-rule.invariant.elements n low)
