use Rattle.std.proofs.Common.{ℕ, sym, subst}
use Rattle.std.specs.Prelude.{◌↔◌, Contains, IfOk}
use Rattle.oscip_job.specs.declared.job.Direction.{Direction}
use Rattle.oscip_run.specs.ReachRuns.{IsReached}
use Rattle.oscip_run.proofs.listing.reachable_modules.Goals as goal

pub returns-in-Imported-clause-exact : goal.returns-in-Imported-clause-exact
returns-in-Imported-clause-exact c =
    subst (λ (d : Direction). IfOk c.reached_modules.result (λ reached. (n : ℕ) → Contains reached.items n ↔ IsReached c.args.net.now d c.args.start n)) (sym c.in-Imported.is) c.reached_modules.ensures.exact

pub returns-in-Importing-clause-exact : goal.returns-in-Importing-clause-exact
returns-in-Importing-clause-exact c =
    subst (λ (d : Direction). IfOk c.reaching_modules.result (λ reached. (n : ℕ) → Contains reached.items n ↔ IsReached c.args.net.now d c.args.start n)) (sym c.in-Importing.is) c.reaching_modules.ensures.exact
