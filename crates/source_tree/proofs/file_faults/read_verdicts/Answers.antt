use Rattle.std.proofs.Common.{◌≡◌, ◌∷◌, [], sym, ◌∙◌}
use Rattle.std.specs.Vec.Iter.{into_iter_items}
use Rattle.std.proofs.lemmas.List.{nil_from_length}
use Rattle.source_tree.proofs.FileFaults.{verdicts_before, verdicts_of_all, verdicts_of_piece}
use Rattle.source_tree.proofs.file_faults.read_verdicts.Goals as goal

pub loop-answer-init : goal.loop-answer-init
loop-answer-init g c =
    rw (c.new-all.ensures.items, c.into_iter-answer-iterator.ensures.into_iter_gives.0) (verdicts_before c.args.sources.now c.in_ok-answers.answers.items c.in_ok-answers.ensures)

pub loop-answer-preserved : goal.loop-answer-preserved
loop-answer-preserved g c =
    let at = c.loop-answer in
    let steps : into_iter_items at.answer-iterator ≡ c.in-Some.answer ∷ into_iter_items c.next.new.self = c.in-Some.ensures.steps.0 in
    let here = rw (steps, c.in_ok-more.was) at at.invariant in
    rw c.in_ok-append.ensures.items (verdicts_of_piece c.args.sources.now at.all.items c.in_ok-more.more (into_iter_items c.next.new.self) here)

pub returns : goal.returns
returns g c =
    let at = c.loop-answer in
    let empty : into_iter_items at.answer-iterator ≡ [] = nil_from_length _ (sym at.answer-iterator.rest.ok.0 ∙ c.in-None.ensures.steps.0) in
    verdicts_of_all c.args.sources.now at.all.items (rw empty at at.invariant)
