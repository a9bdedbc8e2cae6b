-- Empty tables are those of no documents.
use Rattle.index_store.proofs.StoreLemmas.{nothing_kept}
use Rattle.index_store.proofs.builder.StoreBuilder.new.Goals as goal

pub returns : goal.returns
returns c = rw (c.new-2.ensures.texts, c.new-2.ensures.rows, c.new.ensures.texts, c.new.ensures.rows) (record { whole = nothing_kept.0; nothing = nothing_kept.1 })
