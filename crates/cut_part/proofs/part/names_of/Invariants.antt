use Rattle.std.proofs.Common.{◌≡◌, take, map}
use Rattle.cut_net.specs.Network.{name_of, texts}
use Rattle.cut_part.proofs.part.names_of.Given as goal

abbrev pub invariant-loop-number : goal.invariant-loop-number
invariant-loop-number l = texts l.names.items ≡ map (name_of l.net) (take l.number-index l.numbers)
