use Rattle.std.proofs.Common.{get_or, arith, length-set}
use Rattle.cut_preflow.proofs.Exchanging.{inverse_exchanged, places_exchanged}
use Rattle.cut_preflow.proofs.node_set.swap_nodes.Goals as goal

pub returns-clause-position : goal.returns-clause-position
returns-clause-position c = places_exchanged c.args.order.now c.args.position.now c.args.first c.args.second c.requires.inverse c.requires.first c.requires.second

pub bounds-position-here : goal.bounds-position-here
bounds-position-here c = c.requires.inverse.nodes c.args.first c.requires.first

pub bounds-position-there : goal.bounds-position-there
bounds-position-there c =
    omega (arith, c.requires.inverse.nodes c.args.second c.requires.second, length-set c.args.position.now (get_or c.args.order.now c.args.first 0) c.args.second)

pub returns-clause-inverse : goal.returns-clause-inverse
returns-clause-inverse c = inverse_exchanged c.args.order.now c.args.position.now c.args.first c.args.second c.requires.inverse c.requires.first c.requires.second
