use Rattle.std.proofs.Common.{◌≢◌, ◌+◌, ◌∙◌, sym, ap, refl, subst, arith}
use Rattle.cut_preflow.specs.declared.event.Outcome.TheVariants.{Stale}
use Rattle.cut_preflow.specs.Settled.{Appends}
use Rattle.cut_preflow.proofs.Settling.{Appends-push, count_after-applied, history_after-applied}
use Rattle.std.proofs.lemmas.Grind.{common_steps}
use Rattle.cut_preflow.proofs.preflow.Preflow.settle_within.Goals as goal

pub loop-i-preserved : goal.loop-i-preserved
loop-i-preserved g c =
    let on = c.in-Some.ensures.some in
    let fresh : c.apply.result ≢ Stale = (λ e. let off = c.apply.ensures.stale.0 e in cc (on, off)) in
    let history = ap (λ p. p.history) c.apply.ensures.history ∙ history_after-applied c.loop-i.self.trace.history _ c.apply.result fresh c.in_default-apply.not-Refused in
    record {
      same = ap (λ p. p.net) c.apply.ensures.history ∙ c.loop-i.invariant.same;
      appends = subst (λ xs. Appends 0 (c.loop-i._i + 1) c.args.self.now.trace.history xs) (sym history) (Appends-push 0 c.loop-i._i c.args.self.now.trace.history c.loop-i.self.trace.history _ c.loop-i.invariant.appends refl);
      own = omega (arith, ap (λ p. p.own) c.apply.ensures.counted, count_after-applied c.loop-i.self.own c.apply.result fresh c.in_default-apply.not-Refused, c.loop-i.invariant.own);
      out = ap (λ p. p.shares_out) c.apply.ensures.counted ∙ c.loop-i.invariant.out;
    }

pub returns-in_default-clause-own : goal.returns-in_default-clause-own
returns-in_default-clause-own g c = grind (arith, common_steps)

pub returns-in-Refused-clause-own : goal.returns-in-Refused-clause-own
returns-in-Refused-clause-own g c = grind (arith, common_steps)

pub returns-in-Refused-clause-memory : goal.returns-in-Refused-clause-memory
returns-in-Refused-clause-memory g c = grind (arith, common_steps)

pub returns-in-None-clause-own : goal.returns-in-None-clause-own
returns-in-None-clause-own g c = grind (arith, common_steps)

pub returns-in-Some-next_step-clause-own : goal.returns-in-Some-next_step-clause-own
returns-in-Some-next_step-clause-own g c = grind (arith, common_steps)

pub returns-in-Some-next_step-clause-enough : goal.returns-in-Some-next_step-clause-enough
returns-in-Some-next_step-clause-enough g c = grind (arith, common_steps)
