use Rattle.std.proofs.Common.{ℕ, ◌≡◌, ◌≤◌, ◌<◌, cond, eqb, get_or, length, take, sum_by}
use Rattle.cut_part.proofs.reduction.weight_sums_of.Given as goal

abbrev pub invariant-loop-import : goal.invariant-loop-import
invariant-loop-import l = record {
  leaving_size : length l.leaving.items ≡ l.modules;
  entering_size : length l.entering.items ≡ l.modules;
  leaving_most : (m : ℕ) → get_or l.leaving.items m 0 ≤ sum_by (λ i. i.amount) (take l.import-index l.imports);
  entering_most : (m : ℕ) → get_or l.entering.items m 0 ≤ sum_by (λ i. i.amount) (take l.import-index l.imports);
  leave : (m : ℕ) → m < l.modules → get_or l.leaving.items m 0 ≡ sum_by (λ i. cond (eqb i.from m) i.amount 0) (take l.import-index l.imports);
  enter : (m : ℕ) → m < l.modules → get_or l.entering.items m 0 ≡ sum_by (λ i. cond (eqb i.to m) i.amount 0) (take l.import-index l.imports);
  copied : l.copied.items ≡ take l.import-index l.imports;
}
