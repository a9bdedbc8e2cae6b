use Rattle.std.proofs.Common.{◌≡◌, ◌≤◌, length, vec_len}
use Rattle.std.specs.Prelude.{All}
use Rattle.cut_part.proofs.order.import_ranges_of.Given as goal

abbrev pub invariant-loop-number : goal.invariant-loop-number
invariant-loop-number l = record {
  begins : vec_len l.begins ≡ l.modules;
  ends : vec_len l.ends ≡ l.modules;
  entering : vec_len l.entering ≡ l.modules;
  low : All (λ end. end ≤ length l.imports) l.ends.items;
}
