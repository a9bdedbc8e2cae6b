use Rattle.std.proofs.Common.{◌≡◌, None, take}
use Rattle.std.specs.Prelude.{fold}
use Rattle.index_store.specs.TableLookup.{covering_span, nearer_if_covering}
use Rattle.index_store.proofs.nearest.nearest_entry.Given as goal

abbrev pub invariant-loop-row : goal.invariant-loop-row
invariant-loop-row l = l.best ≡ fold (nearer_if_covering covering_span l.at) None (take l.row-index l.rows)
