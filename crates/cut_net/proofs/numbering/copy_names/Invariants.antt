use Rattle.std.proofs.Common.{◌≡◌, take}
use Rattle.cut_net.specs.Network.{texts}
use Rattle.cut_net.proofs.numbering.copy_names.Given as goal

abbrev pub invariant-loop-name : goal.invariant-loop-name
invariant-loop-name l = texts l.copies.items ≡ texts (take l.name-index l.names)
