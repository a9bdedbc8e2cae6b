use Rattle.std.proofs.Common.{◌∙◌, ap, List, Option, subst}
use Rattle.std.specs.Prelude.{IfOk}
use Rattle.std.proofs.lemmas.Result.{IfOk-weaker}
use Rattle.clap.specs.Words.{app_of, Row, Text}
use Rattle.oscip_job.specs.Jobs.{HasCommandAndValues}
use Rattle.oscip_job.proofs.Numbers.{parsed_names, parsed_rows}
use Rattle.oscip_job.proofs.job_conversion.job_of.Goals as goal

pub job_or_fault-requires : goal.job_or_fault-requires
job_or_fault-requires c = parsed_names (app_of c.into_inner.result) _ c.in-Ok.matches (ap app_of c.into_inner.ensures ∙ c.in_ok-command.ensures) c.in-Ok.ensures.kinds c.in-Ok.ensures.matches

pub returns-in-Ok-clause-values : goal.returns-in-Ok-clause-values
returns-in-Ok-clause-values c =
    subst (λ (o : Option (Text × List Row)). IfOk c.job_or_fault.result (HasCommandAndValues o)) (parsed_rows (app_of c.into_inner.result) _ c.in-Ok.matches (ap app_of c.into_inner.ensures ∙ c.in_ok-command.ensures) c.in-Ok.ensures.matches)
    (IfOk-weaker c.job_or_fault.result _ _ (λ job is. is.0) c.job_or_fault.ensures)

pub returns-in-Ok-clause-workers : goal.returns-in-Ok-clause-workers
returns-in-Ok-clause-workers c = IfOk-weaker c.job_or_fault.result _ _ (λ job is. is.1) c.job_or_fault.ensures

pub returns-in-Ok-clause-position : goal.returns-in-Ok-clause-position
returns-in-Ok-clause-position c = IfOk-weaker c.job_or_fault.result _ _ (λ job is. is.2) c.job_or_fault.ensures

pub returns-in-Ok-clause-package : goal.returns-in-Ok-clause-package
returns-in-Ok-clause-package c = IfOk-weaker c.job_or_fault.result _ _ (λ job is. is.3) c.job_or_fault.ensures

pub returns-in-Ok-clause-path : goal.returns-in-Ok-clause-path
returns-in-Ok-clause-path c = IfOk-weaker c.job_or_fault.result _ _ (λ job is. is.4) c.job_or_fault.ensures

pub returns-in-Ok-clause-text : goal.returns-in-Ok-clause-text
returns-in-Ok-clause-text c = IfOk-weaker c.job_or_fault.result _ _ (λ job is. is.5) c.job_or_fault.ensures
