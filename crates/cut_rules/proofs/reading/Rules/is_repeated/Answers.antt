use Rattle.std.proofs.Common.{◌≡◌, List, false, true, inl, inr, ap, sym, subst, arith}
use Rattle.std.specs.Prelude.{Contains}
use Rattle.std.proofs.lemmas.List.{take_all}
use Rattle.cut_rules.specs.declared.rule.Rule.{Rule}
use Rattle.cut_rules.specs.Judged.{IsMayOf}
use Rattle.cut_rules.proofs.NodeMarks.{member_more}
use Rattle.cut_rules.proofs.reading.Rules.is_repeated.Goals as goal
use Rattle.cut_rules.proofs.reading.Rules.is_repeated.Goals.{else-other-rule-via-then-other-rule+else-is_may_of, else-other-rule-via-else-other-rule}

pub loop-other-preserved : goal.loop-other-preserved
loop-other-preserved c = λ s has less may. elim (member_more c.as_slice-other-items.result.now c.loop-other.other-index _ c.loop-other-test.true s has) [
  | inl old ↦ c.loop-other.invariant s old less may
  | inr same ↦ elim c.else-other-rule.branch [
    | else-other-rule-via-then-other-rule+else-is_may_of w ↦ let bad : false ≡ true = w.if-is_may_of.ensures.1 (subst (λ (r : Rule). IsMayOf r c.args.rule.first) (sym same) may) in cc
    | else-other-rule-via-else-other-rule w ↦ let past = w.if-other-rule.false in let line = ap (λ (r : Rule). r.line) same in omega (arith, less)
  ]
]

pub returns : goal.returns
returns c = (
  λ f. absurd (let bad : false ≡ true = f in cc),
  λ (kind, s, has, less, may).
      let past = c.loop-other-test.false in
      let value = c.as_slice-other-items.ensures.value in
      absurd (c.loop-other.invariant s (subst (λ (l : List Rule). Contains l s) (sym (take_all c.loop-other.other-index c.as_slice-other-items.result.now (omega arith))) (subst (λ (l : List Rule). Contains l s) (sym value) has)) less may),
)
