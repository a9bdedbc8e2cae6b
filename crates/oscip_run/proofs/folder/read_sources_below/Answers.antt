use Rattle.std.proofs.Common.{ℕ, List, sym, subst}
use Rattle.cut_net.specs.Network.{texts}
use Rattle.oscip_run.specs.Exclusions.{AreIncludedPaths}
use Rattle.oscip_run.proofs.folder.read_sources_below.Goals as goal

pub returns-then-in_order-clause-included : goal.returns-then-in_order-clause-included
returns-then-in_order-clause-included g c = subst (λ (paths : List (List ℕ)). AreIncludedPaths (texts c.args.excluded.now) paths) (sym c.in_ok-sources.ensures.paths) c.in_ok-paths.ensures
