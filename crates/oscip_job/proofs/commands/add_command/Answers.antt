use Rattle.std.proofs.Common.{◌≡◌, ◌∙◌, ap}
use Rattle.std.proofs.lemmas.Result.{IfOk-at_ok, IfOk-weaker}
use Rattle.clap.specs.Words.{app_of}
use Rattle.clap.specs.declared.Command.{Command}
use Rattle.clap.specs.declared.Command.TheViews.{out-Command as fields_of}
use Rattle.oscip_job.specs.Making.{ParsesArguments}
use Rattle.oscip_job.proofs.Subcommands.{with_command}
use Rattle.oscip_job.proofs.commands.add_command.Goals as goal

pub returns : goal.returns
returns c first second is_first reads =
    let program = IfOk-at_ok (λ k. app_of k.value ≡ first) c.in_ok-program.was is_first in
    let command = IfOk-at_ok (λ k. ParsesArguments second k.value) c.in_ok-command.was reads in
    let inner = ap (λ (k : Command). (fields_of k).has_globals) c.into_inner-2.ensures ∙ command.1 in
    let one = ap app_of c.into_inner.ensures ∙ program in
    let other = ap app_of c.into_inner-2.ensures ∙ command.0 in
    IfOk-weaker c.box_command.result _ _ (λ all h. ap app_of h ∙ with_command _ _ _ _ _ c.in_ok-program-2.ensures inner one other) c.box_command.ensures
