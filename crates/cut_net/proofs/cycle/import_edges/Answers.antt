use Rattle.std.proofs.Common.{sym}
use Rattle.std.proofs.lemmas.List.{map_more}
use Rattle.cut_net.specs.Lines.{edge_of}
use Rattle.cut_net.specs.Network.{missing_item}
use Rattle.cut_net.proofs.cycle.import_edges.Goals as goal

pub loop-import-preserved : goal.loop-import-preserved
loop-import-preserved c = rw (c.in_ok-push.ensures.items, c.loop-import.invariant) (sym (map_more edge_of c.args.imports.now c.loop-import.import-index missing_item c.loop-import-test.true))
