use Rattle.std.proofs.Common.{ℕ, ◌≡◌, ◌*◌, ◌^◌, ◌≤◌, get_or, take, vec_len}
use Rattle.cut_net.specs.declared.priced.Priced.{Priced}
use Rattle.cut_check.specs.Sums.{AreAmounts, AreSums}
use Rattle.cut_check.proofs.flow.sums_of.Given as goal

abbrev pub invariant-loop-k : goal.invariant-loop-k
invariant-loop-k l = record {
  into_size : vec_len l.into ≡ l.modules;
  out_size : vec_len l.out ≡ l.modules;
  into_most : (m : ℕ) → get_or l.into.items m 0 ≤ l.k * 2 ^ 64;
  out_most : (m : ℕ) → get_or l.out.items m 0 ≤ l.k * 2 ^ 64;
  sums : (flow : Priced → ℕ) → AreAmounts l.imports flow l.amounts → AreSums (take l.k l.imports) flow l.modules l.into.items l.out.items;
}
