use Rattle.std.proofs.Common.{◌≡◌, ◌∙◌, ap, rules}
use Rattle.std.proofs.lemmas.Result.{IfOk-at_ok, IfOk-weaker}
use Rattle.clap.specs.Words.{app_of}
use Rattle.clap.specs.declared.Command.{Command}
use Rattle.clap.specs.declared.Command.TheViews.{out-Command as fields_of}
use Rattle.oscip_job.specs.Making.{ParsesArguments}
use Rattle.oscip_job.proofs.commands.with_usage.Goals as goal

pub returns : goal.returns
returns c app reads =
    let before = IfOk-at_ok (λ k. ParsesArguments app k.value) c.in_ok-command.was reads in
    let same : app_of c.override_usage.result ≡ app_of c.into_inner.result = search rules in
    let local : (fields_of c.override_usage.result).has_globals ≡ (fields_of c.into_inner.result).has_globals = search rules in
    let words = same ∙ ap app_of c.into_inner.ensures ∙ before.0 in
    let inner = local ∙ ap (λ (k : Command). (fields_of k).has_globals) c.into_inner.ensures ∙ before.1 in
    IfOk-weaker c.box_command.result _ _ (λ it h. (ap app_of h ∙ words, ap (λ (k : Command). (fields_of k).has_globals) h ∙ inner)) c.box_command.ensures
