use Rattle.std.proofs.Common.{ℕ, List}
use Rattle.std.specs.String.{string_bytes}
use Rattle.std.proofs.lemmas.Map.Views.{All-map-IsPermutation}
use Rattle.cut_net.specs.Network.{texts}
use Rattle.glob.specs.Exclusions.{IsExcluded}
use Rattle.oscip_run.proofs.folder.sorted_paths_below.Goals as goal

pub returns : goal.returns
returns g c = All-map-IsPermutation string_bytes (λ (path : List ℕ). IsExcluded (texts c.args.excluded.now) path → ⊥) c.in_ok-paths.paths.items c.sort_unstable.new.self.items c.sort_unstable.ensures.permutation
    (c.in_ok-paths.ensures (texts c.args.excluded.now) c.in_ok-exclusion.ensures)
