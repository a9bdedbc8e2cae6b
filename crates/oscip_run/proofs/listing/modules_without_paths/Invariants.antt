use Rattle.std.proofs.Common.{◌≡◌, map, take}
use Rattle.oscip_run.specs.ModuleRuns.{entry_of}
use Rattle.oscip_run.specs.ReachRuns.{named_entry}
use Rattle.oscip_run.proofs.listing.modules_without_paths.Given as goal

abbrev pub invariant-loop-number : goal.invariant-loop-number
invariant-loop-number l = map entry_of l.listed.items ≡ map (named_entry l.net) (take l.number-index l.numbers)
