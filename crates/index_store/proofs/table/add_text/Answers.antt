use Rattle.index_store.proofs.TableLemmas.{texts_more}
use Rattle.index_store.proofs.table.add_text.Goals as goal

pub returns : goal.returns
returns c = rw c.in_ok-insert.ensures.keys (texts_more c.args.texts.now.keys c.in_ok-text.text c.args.text.now c.in_ok-text.ensures.ok c.requires)
