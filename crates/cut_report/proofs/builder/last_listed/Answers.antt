use Rattle.std.proofs.Common.{◌∙◌}
use Rattle.cut_report.proofs.LastImports.{last_is}
use Rattle.cut_report.proofs.builder.last_listed.Goals as goal

pub returns : goal.returns
returns c = c.copied.ensures ∙ c.last.ensures.value ∙ last_is c.args.imports.now
