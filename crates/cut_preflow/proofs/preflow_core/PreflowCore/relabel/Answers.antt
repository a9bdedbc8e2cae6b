use Rattle.std.proofs.Common.{◌≡◌, Some, sym, arith, set}
use Rattle.cut_preflow.specs.Preflow.{relabel_target}
use Rattle.cut_preflow.proofs.Carrying.{relabelled_indexed}
use Rattle.cut_preflow.proofs.Fields.{fields_of, net_of, sound_fields, unseen}
use Rattle.cut_preflow.proofs.Playing.{relabel_played, raised_low}
use Rattle.cut_preflow.proofs.preflow_core.PreflowCore.relabel.Goals as goal
use Rattle.cut_preflow.proofs.preflow_core.PreflowCore.relabel.Goals.{In-Ok}

raises : (c : In-Ok) → relabel_target (net_of c.self.inside) (fields_of c.self.inside) c.args.node ≡ Some c.in-Some.label
raises c = unseen c.self.inside c.self.invariant.0 c.args.self.now c.self.view_is (λ net s. relabel_target net s c.args.node ≡ Some c.in-Some.label) (sym c.in-Some.ensures)

pub index_mut-requires : goal.index_mut-requires
index_mut-requires c =
    let low = raised_low (net_of c.self.inside) (fields_of c.self.inside) c.args.node c.in-Some.label (raises (goal.at.index_mut-requires c).In-Ok) in
    omega (arith, low, (sound_fields c.self.inside c.self.invariant.0).kept.labels, c.self.inside.labels.ok.0)

pub invariant_of-self-2 : goal.invariant_of-self-2
invariant_of-self-2 c =
    rw (c.in-Ok.ensures.items) (
      relabel_played (net_of c.self.inside) (fields_of c.self.inside) c.self.inside.history.items c.args.event c.args.node c.in-Some.label c.self.invariant.0 c.requires (raises (goal.at.invariant_of-self-2 c).In-Ok),
      relabelled_indexed (net_of c.self.inside) (fields_of c.self.inside) (set c.self.inside.labels.items c.args.node c.in-Some.label) c.self.inside.graph.nodes c.self.inside.excesses.items c.self.inside.active c.self.invariant.1,
    )
