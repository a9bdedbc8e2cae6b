use Rattle.std.proofs.Common.{List, ap, ◌∙◌, take_all}
use Rattle.index_store.specs.declared.row.PathEntry.{PathEntry}
use Rattle.index_store.specs.TableLookup.{nearest_entry}
use Rattle.index_store.proofs.nearest.nearest_entry.Goals as goal

pub returns : goal.returns
returns c = c.loop-row.invariant ∙ ap (λ (rows : List PathEntry). nearest_entry rows c.args.at) (take_all c.loop-row.row-index c.args.rows.now c.loop-row-test.false)
