use Rattle.std.proofs.Common.{◌≡◌, ◌<◌, length, vec_len}
use Rattle.std.specs.Prelude.{All}
use Rattle.cut_part.proofs.order.remove_imports.Given as goal

abbrev pub invariant-loop-number : goal.invariant-loop-number
invariant-loop-number l = record {
  entering : vec_len l.entering ≡ vec_len l.fn.entering;
  free : All (λ m. m < vec_len l.fn.entering) l.free.items;
  numbers : All (λ k. k < length l.imports) l.numbers.items;
}
