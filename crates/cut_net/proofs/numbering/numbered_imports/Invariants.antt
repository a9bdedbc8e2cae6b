use Rattle.std.proofs.Common.{◌≡◌, length, map}
use Rattle.std.specs.Map.Iter.{deref_pair}
use Rattle.cut_net.specs.Network.{texts}
use Rattle.cut_net.specs.NetReading.{entry_line, import_line}
use Rattle.cut_net.specs.WellFormed.{AreBetween}
use Rattle.cut_net.proofs.numbering.numbered_imports.Given as goal

abbrev pub invariant-loop-ends : goal.invariant-loop-ends
invariant-loop-ends l = AreBetween l.imports.items (length l.names) × (map (import_line (texts l.names)) l.imports.items ≡ map (entry_line (texts l.builder.names.keys)) (map deref_pair l.yielded))
