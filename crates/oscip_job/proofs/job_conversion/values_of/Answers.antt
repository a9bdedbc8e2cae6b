use Rattle.std.proofs.Common.{◌∙◌, None, Some, ap, map, sym}
use Rattle.std.specs.String.{string_bytes}
use Rattle.std.proofs.lemmas.Result.{IfOk-weaker}
use Rattle.clap.specs.Words.{found_of}
use Rattle.oscip_job.proofs.Found.{all_found}
use Rattle.oscip_job.proofs.job_conversion.values_of.Goals as goal

pub returns-in-None : goal.returns-in-None
returns-in-None c = all_found (found_of c.args.found.now) c.args.id.now None c.in-None.ensures ∙ ap (map string_bytes) (sym c.new.ensures.items)

pub returns-in-Some : goal.returns-in-Some
returns-in-Some c =
    IfOk-weaker c.copy_texts.result _ _ (λ copies e. all_found (found_of c.args.found.now) c.args.id.now (Some (map (λ v. v.now) c.in-Some.values.now)) c.in-Some.ensures ∙ sym e) c.copy_texts.ensures
