use Rattle.std.proofs.Common.{◌+◌, ◌++◌, ℕ, eqb, length, take, ap, refl, sym, ◌∙◌, rules, tests}
use Rattle.std.proofs.lemmas.List.{length_push}
use Rattle.std.proofs.lemmas.Option.{slice_get_read}
use Rattle.std.proofs.lemmas.Iterator.Consumers.{YieldsList-at, YieldsList-turn, YieldsList-end, YieldsList-so_far}
use Rattle.std.proofs.lemmas.Iterator.Splits.{YieldsList-from_slice_split}
use Rattle.cut_net.specs.NetText.{Spell, net_line, pieces_of}
use Rattle.cut_net.proofs.Fronts.{fault_is}
use Rattle.cut_net.proofs.LineStops.{spell_next}
use Rattle.cut_net.proofs.reading.fill_builder.Goals as goal

pub returns-in-Err-clause-fault : goal.returns-in-Err-clause-fault
returns-in-Err-clause-fault c =
    let turn = YieldsList-turn (YieldsList-at c.into_iter-piece-iterator.ensures.into_iter_gives
    (YieldsList-from_slice_split _ (λ b. eqb b 10) c.args.bytes.now c.split-piece-items.ensures.rest c.split-piece-items.ensures.done c.split-piece-items.ensures.closure (λ x b q k. search (rules, tests))))
    c.loop-piece.yielded _ c.loop-piece.yielded_by _ _ c.in-Some.piece c.in-Some.is c.next.ensures.steps in
    let so_far = YieldsList-so_far (YieldsList-at c.into_iter-piece-iterator.ensures.into_iter_gives
    (YieldsList-from_slice_split _ (λ b. eqb b 10) c.args.bytes.now c.split-piece-items.ensures.rest c.split-piece-items.ensures.done c.split-piece-items.ensures.closure (λ x b q k. search (rules, tests))))
    c.loop-piece.yielded _ c.loop-piece.yielded_by in
    let (count, lines, spelled, builder) = c.loop-piece.invariant in
    let prefix : Spell (take (length c.loop-piece.yielded) (pieces_of c.args.bytes.now)) lines = rw (← so_far) spelled in
    let present = slice_get_read (pieces_of c.args.bytes.now) _ (length c.loop-piece.yielded) c.in-Some.piece.now refl turn.0 turn.1 in
    let next = ap (λ (n : ℕ). n + 1) count in
    rw c.at.ensures (fault_is c.args.bytes.now (length c.loop-piece.yielded) _ lines c.in-Some.piece.now c.in-Err.fault c.loop-piece.builder c.take.new.self next prefix builder present (c.in-Err.ensures lines builder))

pub loop-piece-preserved : goal.loop-piece-preserved
loop-piece-preserved c =
    let (count, lines, spelled, builder) = c.loop-piece.invariant in
    let (more, last, whole) = c.in_default.ensures lines builder in
    (ap (λ (n : ℕ). n + 1) count ∙ sym (length_push c.loop-piece.yielded c.in-Some.piece), lines ++ more, spell_next net_line _ c.loop-piece.yielded c.in-Some.piece lines more spelled last, whole)

pub returns-clause-built : goal.returns-clause-built
returns-clause-built c =
    let done = YieldsList-end (YieldsList-at c.into_iter-piece-iterator.ensures.into_iter_gives
    (YieldsList-from_slice_split _ (λ b. eqb b 10) c.args.bytes.now c.split-piece-items.ensures.rest c.split-piece-items.ensures.done c.split-piece-items.ensures.closure (λ x b q k. search (rules, tests))))
    c.loop-piece.yielded _ c.loop-piece.yielded_by _ _ c.in-None.is c.next.ensures.steps in
    let (count, lines, spelled, builder) = c.loop-piece.invariant in
    (lines, rw (← done.0) spelled, builder)
