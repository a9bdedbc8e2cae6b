use Rattle.std.proofs.Common.{◌≡◌, ◌∷◌, [], sym, ◌∙◌}
use Rattle.std.specs.Vec.Iter.{into_iter_items}
use Rattle.std.proofs.lemmas.List.{nil_from_length}
use Rattle.std.proofs.lemmas.Result.{err_from_is_err_and}
use Rattle.source_tree.proofs.ReadFiles.{all_pieces, before_pieces, fault_of_piece, next_piece, of_tree}
use Rattle.source_tree.proofs.files.read_files.Goals as goal

pub loop-answer-init : goal.loop-answer-init
loop-answer-init g c =
    rw (c.new-all.ensures.items, c.into_iter-answer-iterator.ensures.into_iter_gives.0) (before_pieces g.K.FromSource.is_of c.args.sources.now c.in_ok-answers.answers.items c.in_ok-answers.ensures)

pub returns-in_err-more-clause-fault : goal.returns-in_err-more-clause-fault
returns-in_err-more-clause-fault g c =
    let is_of = g.K.FromSource.is_of in
    let at = c.loop-answer in
    let p = err_from_is_err_and c.from_residual-in_err-more.result c.from_residual-in_err-more.ensures.1 in
    let steps : into_iter_items at.answer-iterator ≡ c.in-Some.answer ∷ into_iter_items c.next.new.self = c.in-Some.ensures.steps.0 in
    let here = rw (steps, c.in_err-more.was) at at.invariant in
    rw (p.1, p.2) (of_tree c.args.sources.now _ (fault_of_piece is_of c.args.sources.now at.all.items _ (into_iter_items c.next.new.self) here))

pub loop-answer-preserved : goal.loop-answer-preserved
loop-answer-preserved g c =
    let is_of = g.K.FromSource.is_of in
    let at = c.loop-answer in
    let steps : into_iter_items at.answer-iterator ≡ c.in-Some.answer ∷ into_iter_items c.next.new.self = c.in-Some.ensures.steps.0 in
    let here = rw (steps, c.in_ok-more.was) at at.invariant in
    rw c.in_ok-append.ensures.items (next_piece is_of c.args.sources.now at.all.items c.in_ok-more.more (into_iter_items c.next.new.self) here)

pub returns-clause-kept : goal.returns-clause-kept
returns-clause-kept g c =
    let at = c.loop-answer in
    let empty : into_iter_items at.answer-iterator ≡ [] = nil_from_length _ (sym at.answer-iterator.rest.ok.0 ∙ c.in-None.ensures.steps.0) in
    all_pieces g.K.FromSource.is_of c.args.sources.now at.all.items (rw empty at at.invariant)
