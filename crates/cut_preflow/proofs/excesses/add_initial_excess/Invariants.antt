use Rattle.std.proofs.Common.{◌≡◌, ◌≢◌, ℕ, ◌==◌, if◌then◌else◌, slice_index}
use Rattle.cut_preflow.specs.Total.{total}
use Rattle.cut_preflow.specs.Preflow.{import_in, opening_flows}
use Rattle.cut_preflow.specs.Indexed.{AreActive}
use Rattle.cut_preflow.proofs.excesses.add_initial_excess.Given as goal

abbrev pub invariant-loop-import : goal.invariant-loop-import
invariant-loop-import l = record {
  active : AreActive l.ends l.excesses.items l.active;
  sums : (v : ℕ) → v ≢ l.ends.source → slice_index l.excesses.items v ≡ total l.import-index (λ i. if (import_in l.imports i).to == v then slice_index (opening_flows l.ends.source l.imports) i else 0);
}
