use Rattle.std.proofs.Common.{List, length, sym, subst}
use Rattle.std.proofs.lemmas.Result.{IfOk-weaker}
use Rattle.cut_net.specs.declared.priced.Priced.{Priced}
use Rattle.cut_net.specs.WellFormed.{AreBetween}
use Rattle.cut_part.specs.CapacityReduction.{IsReduced}
use Rattle.cut_solve.proofs.start.reduced_imports.Goals as goal

pub topological_imports-requires-clause-between : goal.topological_imports-requires-clause-between
topological_imports-requires-clause-between c =
    subst (AreBetween c.imports.result.now) (sym c.nodes.ensures) (subst (λ v. AreBetween v (length c.args.net.now.names)) (sym c.imports.ensures) c.invariants.ensures.network.between)

pub reduced_capacities-requires-clause-between : goal.reduced_capacities-requires-clause-between
reduced_capacities-requires-clause-between c =
    subst (AreBetween c.imports-2.result.now) (sym c.nodes-2.ensures) (subst (λ v. AreBetween v (length c.args.net.now.names)) (sym c.imports-2.ensures) c.invariants.ensures.network.between)

pub returns : goal.returns
returns c =
    let net = c.args.net.now in
    IfOk-weaker c.reduced_capacities.result _ _
    (λ v h. subst (λ (imports : List Priced). IsReduced (record { names = net.names; imports = imports; pins = net.pins }) (record { names = net.names; imports = v.items; pins = net.pins }) c.args.from c.args.to)
    c.imports-2.ensures (h net.names net.pins (sym c.nodes-2.ensures))) c.reduced_capacities.ensures
