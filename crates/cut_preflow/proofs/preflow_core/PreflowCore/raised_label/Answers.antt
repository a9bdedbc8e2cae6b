use Rattle.std.proofs.Common.{◌∙◌, is_some, sym, ap, arith}
use Rattle.cut_preflow.specs.Trace.{state_of}
use Rattle.cut_preflow.proofs.Least.{raised_unled, raised_over_least, raised_not_over}
use Rattle.cut_preflow.proofs.preflow_core.PreflowCore.raised_label.Goals as goal

pub returns-in_err-least : goal.returns-in_err-least
returns-in_err-least c =
    c.from_residual.ensures ∙ sym (raised_unled c.args.self.now.net (state_of c.args.self.now) c.args.node (c.least_label.ensures.none (ap (λ o. is_some o) c.in_err-least.was)))

pub returns-then-label-least : goal.returns-then-label-least
returns-then-label-least c =
    sym (raised_over_least c.args.self.now.net (state_of c.args.self.now) c.args.node c.in_ok-least.least (sym c.is_active.ensures.value ∙ c.if-not-is_active.false) c.in_ok-least.ensures.some.0 c.in_ok-least.ensures.some.1 (omega (arith, c.if-label-least.true, c.label.ensures.value)))

pub returns-else-label-least : goal.returns-else-label-least
returns-else-label-least c =
    sym (raised_not_over c.args.self.now.net (state_of c.args.self.now) c.args.node c.in_ok-least.least c.in_ok-least.ensures.some.0 (omega (arith, c.if-label-least.false, c.label.ensures.value)))
