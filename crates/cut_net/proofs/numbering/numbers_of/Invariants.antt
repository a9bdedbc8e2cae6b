use Rattle.std.proofs.Common.{◌≡◌, vec_len}
use Rattle.cut_net.specs.Network.{texts}
use Rattle.cut_net.proofs.Numbers.{AreNumbers}
use Rattle.cut_net.proofs.numbering.numbers_of.Given as goal

abbrev pub invariant-loop-name : goal.invariant-loop-name
invariant-loop-name l = record {
  size : vec_len l.numbers ≡ l.name-index;
  numbers : AreNumbers (texts l.old) (texts l.names) l.numbers.items;
}
