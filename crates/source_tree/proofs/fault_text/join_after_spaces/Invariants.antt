use Rattle.std.proofs.Common.{◌≡◌, take}
use Rattle.std.specs.String.{string_bytes}
use Rattle.std.specs.List.{flat_map}
use Rattle.cut_net.specs.Network.{texts}
use Rattle.source_tree.specs.TreeFaults.{after_space}
use Rattle.source_tree.proofs.fault_text.join_after_spaces.Given as goal

abbrev pub invariant-loop-name : goal.invariant-loop-name
invariant-loop-name l = string_bytes l.text ≡ flat_map after_space (texts (take l.name-index l.names))
