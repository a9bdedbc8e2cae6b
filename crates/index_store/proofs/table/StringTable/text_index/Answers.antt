use Rattle.std.proofs.Common.{◌∙◌}
use Rattle.index_store.proofs.TableLemmas.{number_is}
use Rattle.index_store.proofs.table.StringTable.text_index.Goals as goal

pub returns : goal.returns
returns g c = c.get_index_of.ensures.index ∙ number_is c.args.self.now.texts.keys c.args.text.now
