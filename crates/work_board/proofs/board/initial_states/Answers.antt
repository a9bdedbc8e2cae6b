-- The modules, one by one.
use Rattle.std.proofs.Common.{sym, ap, ◌∙◌, take_all}
use Rattle.std.specs.Prelude.{map}
use Rattle.std.proofs.lemmas.List.{map_more}
use Rattle.work_board.specs.declared.state.State.TheVariants.{Waiting}
use Rattle.work_board.specs.Keeping.{state_after_delivery}
use Rattle.work_board.proofs.board.initial_states.Goals as goal

pub loop-count-preserved : goal.loop-count-preserved
loop-count-preserved c =
    rw (c.in_ok-push.ensures.items, c.loop-count.invariant, c.initial_module_state.ensures) (sym (map_more (state_after_delivery Waiting) c.args.counts.now c.loop-count.count-index 0 c.loop-count-test.true))

pub returns : goal.returns
returns c = c.loop-count.invariant ∙ ap (map (state_after_delivery Waiting)) (take_all c.loop-count.count-index c.args.counts.now c.loop-count-test.false)
