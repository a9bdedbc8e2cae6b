use Rattle.std.proofs.Common.{◌≡◌, ◌++◌, take}
use Rattle.std.specs.Prelude.{FitsSigned}
use Rattle.std.specs.Int.{w32}
use Rattle.std.specs.List.{AllByRecursion}
use Rattle.proto_wire.specs.Writing.{packed_payload}
use Rattle.proto_wire.proofs.encoding.append_packed_numbers.Given as goal

abbrev pub invariant-loop-number : goal.invariant-loop-number
invariant-loop-number l = record {
  bytes : l.out.items ≡ l.initial.out.items ++ packed_payload (take l.number-index l.numbers);
  fits : AllByRecursion (FitsSigned w32) (take l.number-index l.numbers);
}
