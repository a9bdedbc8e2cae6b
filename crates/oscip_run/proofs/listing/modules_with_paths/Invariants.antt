use Rattle.std.proofs.Common.{◌≡◌, map, take}
use Rattle.std.specs.Prelude.{option_map}
use Rattle.oscip_run.specs.ModuleRuns.{entry_of, ModuleEntry}
use Rattle.oscip_run.proofs.listing.modules_with_paths.Given as goal

abbrev pub invariant-loop-node : goal.invariant-loop-node
invariant-loop-node l = record {
  names : map (λ (entry : ModuleEntry). entry.name) (map entry_of l.listed.items) ≡ take l.node l.net.names;
  paths : map (λ (entry : ModuleEntry). entry.path) (map entry_of l.listed.items) ≡ map (option_map (λ path. path.now)) (take l.node l.paths);
}
