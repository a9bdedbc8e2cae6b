use Rattle.std.proofs.Common.{◌≡◌, ◌<◌, length, vec_len}
use Rattle.std.specs.Prelude.{All}
use Rattle.cut_part.proofs.order.topological_imports.Given as goal

abbrev pub invariant-loop : goal.invariant-loop
invariant-loop l = record {
  entering : vec_len l.entering ≡ l.modules;
  free : All (λ m. m < l.modules) l.free.items;
  numbers : All (λ k. k < length l.imports) l.numbers.items;
}
