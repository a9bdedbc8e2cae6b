use Rattle.std.proofs.Common.{◌≡◌, ◌∙◌, ap, false, rules}
use Rattle.std.proofs.lemmas.Result.{IfOk-weaker}
use Rattle.clap.specs.Words.{app_of, new_app}
use Rattle.clap.specs.declared.Command.{Command}
use Rattle.clap.specs.declared.Command.TheViews.{out-Command as fields_of}
use Rattle.oscip_job.proofs.commands.new_command.Goals as goal

pub returns : goal.returns
returns c =
    let words : app_of c.after_help-command.result ≡ new_app c.args.name.now = search rules in
    let local : (fields_of c.after_help-command.result).has_globals ≡ false = search rules in
    IfOk-weaker c.box_command.result _ _ (λ it h. (ap app_of h ∙ words, ap (λ (k : Command). (fields_of k).has_globals) h ∙ local)) c.box_command.ensures
