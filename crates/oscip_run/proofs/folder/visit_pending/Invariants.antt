use Rattle.std.proofs.Common.{ℕ, List}
use Rattle.cut_net.specs.Network.{texts}
use Rattle.glob.specs.Exclusions.{AreRead}
use Rattle.oscip_run.specs.Exclusions.{AreIncludedPaths}
use Rattle.oscip_run.proofs.folder.visit_pending.Given as goal

abbrev pub invariant-loop : goal.invariant-loop
invariant-loop g l = (patterns : List (List ℕ)) → AreRead patterns l.exclusion.globs.items → AreIncludedPaths patterns (texts l.initial.walk.files.items) → AreIncludedPaths patterns (texts l.walk.files.items)
