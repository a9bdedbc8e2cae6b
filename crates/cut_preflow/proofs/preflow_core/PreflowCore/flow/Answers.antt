use Rattle.std.proofs.Common.{◌≡◌, ◌≤◌, ap, arith}
use Rattle.cut_preflow.specs.Preflow.{count, flow_at, import_at}
use Rattle.cut_preflow.proofs.Fields.{reached_flags, sound_fields}
use Rattle.cut_preflow.proofs.preflow_core.PreflowCore.flow.Goals as goal

pub flow-requires : goal.flow-requires
flow-requires c =
    let size = ap (λ p. count p.net) c.self.view_is in
    omega (arith, c.requires, size)

pub returns-clause-value : goal.returns-clause-value
returns-clause-value c = reached_flags c.self.inside c.self.invariant.0 c.args.self.now c.self.view_is (λ net s. c.flow.result ≡ flow_at s c.args.import) c.flow.ensures

pub returns-clause-fits : goal.returns-clause-fits
returns-clause-fits c =
    let size = ap (λ p. count p.net) c.self.view_is in
    let fits = (sound_fields c.self.inside c.self.invariant.0).kept.fits c.args.import (omega (arith, c.requires, size)) in
    reached_flags c.self.inside c.self.invariant.0 c.args.self.now c.self.view_is (λ net s. c.flow.result ≤ (import_at net c.args.import).amount) (omega (arith, c.flow.ensures, fits))
