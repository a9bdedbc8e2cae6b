use Rattle.std.proofs.Common.{◌≡◌, ℕ, length, get_or, None}
use Rattle.std.specs.Prelude.{option_map}
use Rattle.oscip_run.specs.ModuleRuns.{IsPathAt}
use Rattle.oscip_run.proofs.listing.paths_by_module.Given as goal

abbrev pub invariant-loop-location : goal.invariant-loop-location
invariant-loop-location l = record {
  size : length l.paths.items ≡ l.nodes;
  paths : (m : ℕ) → IsPathAt l.sources l.modules l.location m (option_map (λ path. path.now) (get_or l.paths.items m None));
}
