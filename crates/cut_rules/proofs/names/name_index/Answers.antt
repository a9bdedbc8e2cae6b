use Rattle.std.proofs.Common.{◌∙◌}
use Rattle.cut_rules.proofs.NameLaws.{index_is}
use Rattle.cut_rules.proofs.names.name_index.Goals as goal

pub returns-clause-place : goal.returns-clause-place
returns-clause-place c = c.get_index_of.ensures.index ∙ index_is c.args.names.now.keys c.args.name.now
