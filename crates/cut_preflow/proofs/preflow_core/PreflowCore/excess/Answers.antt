use Rattle.std.proofs.Common.{◌≡◌, ◌<◌, ◌+◌, ap, length, arith}
use Rattle.std.proofs.lemmas.List.{get_or_read}
use Rattle.cut_preflow.specs.Preflow.{inflow, outflow}
use Rattle.cut_preflow.proofs.Fields.{fields_of, net_of, reached_flags, sound_fields}
use Rattle.cut_preflow.proofs.Sound.{flows_fit}
use Rattle.cut_preflow.proofs.preflow_core.PreflowCore.excess.Goals as goal

pub excess-requires : goal.excess-requires
excess-requires c = flows_fit (net_of c.self.inside) (fields_of c.self.inside) (sound_fields c.self.inside c.self.invariant.0)

pub returns-else-node-self-clause-exact : goal.returns-else-node-self-clause-exact
returns-else-node-self-clause-exact c = λ _.
    let nodes = ap (λ p. p.net.nodes) c.self.view_is in
    let low : c.args.node < c.self.inside.ends.nodes = omega (arith, c.requires, nodes) in
    let within : c.args.node < length c.self.inside.excesses.items = omega (arith, low, c.self.invariant.1.each_counted) in
    let read = get_or_read c.self.inside.excesses.items c.args.node c.index.result.now within c.index.ensures 0 in
    let is = c.self.invariant.1.excesses_are c.args.node low c.if-node-self.false in
    let owes = (sound_fields c.self.inside c.self.invariant.0).kept.no_debt c.args.node low c.if-node-self.false in
    let here : outflow (net_of c.self.inside) (fields_of c.self.inside) c.args.node + c.index.result.now ≡ inflow (net_of c.self.inside) (fields_of c.self.inside) c.args.node = omega (arith, read, is, owes) in
    reached_flags c.self.inside c.self.invariant.0 c.args.self.now c.self.view_is (λ net s. outflow net s c.args.node + c.index.result.now ≡ inflow net s c.args.node) here
