use Rattle.std.proofs.Common.{◌≡◌, map, take}
use Rattle.cut_net.specs.Lines.{edge_of}
use Rattle.cut_net.proofs.cycle.import_edges.Given as goal

abbrev pub invariant-loop-import : goal.invariant-loop-import
invariant-loop-import l = l.pairs.items ≡ map edge_of (take l.import-index l.imports)
