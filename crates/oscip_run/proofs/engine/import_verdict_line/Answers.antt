use Rattle.std.proofs.Common.{◌∙◌}
use Rattle.std.specs.Prelude.{codes}
use Rattle.std.proofs.lemmas.Result.{IfOk-weaker}
use Rattle.oscip_run.proofs.CheckRuns.{two_names}
use Rattle.oscip_run.proofs.engine.import_verdict_line.Goals as goal

pub returns : goal.returns
returns c = IfOk-weaker c.format.result _ _ (λ t h. h ∙ two_names (codes "no ") _ _ _ _ _ (codes "\n") c.name_or_empty-from.ensures c.name_or_empty-to.ensures) c.format.ensures.ok
