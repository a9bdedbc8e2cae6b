use Rattle.std.proofs.Common.{◌∙◌}
use Rattle.ob_types.proofs.PrecomputedEnds.{end_moved, one_more}
use Rattle.ob_types.proofs.precompute.compute_ends.Goals as goal

pub loop-reached-preserved : goal.loop-reached-preserved
loop-reached-preserved c =
    let first = c.end.ensures.graph ∙ c.loop-reached.invariant.graph in
    record {
      graph = c.end-in-loop-reached.ensures.graph ∙ first;
      ends = one_more c.args.finder.now _ _ _ c.loop-reached.all c.insert.new.self c.in_ok-insert.ensures.updates.0
          (record {
            by_names = end_moved _ _ _ _ _ _ c.loop-reached.invariant.graph c.type_expr-node.ensures c.in_ok-end.ensures.end;
            by_pointers = end_moved _ _ _ _ _ _ first c.type_expr-node.ensures c.in_ok-end-2.ensures.end;
          })
          c.loop-reached.invariant.ends;
    }
