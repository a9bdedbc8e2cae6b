use Rattle.std.proofs.Common.{map, sym, ◌∙◌, arith}
use Rattle.std.proofs.lemmas.List.{ext_get_or, length-map}
use Rattle.work_board.specs.declared.state.State.TheVariants.{Waiting}
use Rattle.work_board.specs.Keeping.{state_after_release}
use Rattle.work_board.proofs.Resting.{state_let_go}
use Rattle.work_board.proofs.board.free_all_claimed.Goals as goal

pub returns : goal.returns
returns c =
    let old = c.args.states.now in
    let now = c.loop-place.states in
    let l = length-map old state_after_release in
    let same = c.loop-place.auto.states in
    let end = c.loop-place-test.false in
    ext_get_or Waiting now (map state_after_release old) (omega arith) (λ k lt.
    c.loop-place.invariant.done k (omega arith) ∙ sym (state_let_go old k))
