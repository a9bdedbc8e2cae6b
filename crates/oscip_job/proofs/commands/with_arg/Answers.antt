use Rattle.std.proofs.Common.{◌∙◌, ap, ap₂, ◌||◌, Bool}
use Rattle.std.proofs.lemmas.Result.{IfOk-weaker}
use Rattle.clap.specs.Words.{app_of, rule_of, with_rule, App}
use Rattle.clap.specs.declared.Command.{Command}
use Rattle.clap.specs.declared.Command.TheViews.{out-Command as fields_of}
use Rattle.oscip_job.proofs.commands.with_arg.Goals as goal

pub returns : goal.returns
returns c app reads =
    let is = c.in_ok-command.ensures in
    let words = is.shape c.requires ∙ ap (λ (a : App). with_rule a (rule_of c.args.arg)) (ap app_of c.into_inner.ensures ∙ reads.0) in
    let local = is.globals ∙ ap₂ (λ (x : Bool) (y : Bool). x || y) (ap (λ (k : Command). (fields_of k).has_globals) c.into_inner.ensures ∙ reads.1) c.requires in
    IfOk-weaker c.box_command.result _ _ (λ all h. (ap app_of h ∙ words, ap (λ (k : Command). (fields_of k).has_globals) h ∙ local)) c.box_command.ensures
