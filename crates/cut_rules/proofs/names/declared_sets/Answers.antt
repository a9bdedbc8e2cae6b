-- The names after each piece.
use Rattle.std.proofs.Common.{◌+◌, ℕ, set, true, eqb, length, refl, sym, subst, rules, tests}
use Rattle.std.proofs.lemmas.List.{length_push}
use Rattle.std.proofs.lemmas.Option.{slice_get_read}
use Rattle.std.proofs.lemmas.Iterator.Consumers.{YieldsList-at, YieldsList-turn, YieldsList-end}
use Rattle.std.proofs.lemmas.Iterator.Splits.{YieldsList-from_slice_split}
use Rattle.cut_rules.specs.RuleLines.{pieces_of}
use Rattle.cut_rules.proofs.NameLaws.{declared_all, declared_early, declared_more, declared_same, AreDeclaredWithin}
use Rattle.cut_rules.proofs.Pieces.{piece_here}
use Rattle.cut_rules.proofs.names.declared_sets.Goals as goal

pub returns-then-are_all_set : goal.returns-then-are_all_set
returns-then-are_all_set c =
    let turn = YieldsList-turn (YieldsList-at c.into_iter-piece-iterator.ensures.into_iter_gives
    (YieldsList-from_slice_split _ (λ b. eqb b 10) c.args.bytes.now c.split-piece-items.ensures.rest c.split-piece-items.ensures.done c.split-piece-items.ensures.closure (λ x b q k. search (rules, tests))))
    c.loop-piece.yielded _ c.loop-piece.yielded_by _ _ c.in-Some.piece c.in-Some.is c.next.ensures.steps in
    let pieces = pieces_of c.args.bytes.now in
    let count = length c.loop-piece.yielded in
    let at = piece_here pieces count c.in-Some.piece.now (slice_get_read pieces _ count c.in-Some.piece.now refl turn.0 turn.1) in
    let (low, x, here, index) = c.in-Some-newly_declared_set.ensures.found in
    let more = declared_more pieces count c.in-Some.piece.now at c.args.names.now.keys c.loop-piece.declared.items c.loop-piece.invariant c.in-Some-newly_declared_set.place low x here index in
    declared_early pieces (count + 1) c.args.names.now.keys _ (rw c.as_slice-in-Some-newly_declared_set.ensures.value at c.are_all_set.ensures c.if-are_all_set.true) more

pub loop-piece-preserved-else-are_all_set : goal.loop-piece-preserved-else-are_all_set
loop-piece-preserved-else-are_all_set c =
    let turn = YieldsList-turn (YieldsList-at c.into_iter-piece-iterator.ensures.into_iter_gives
    (YieldsList-from_slice_split _ (λ b. eqb b 10) c.args.bytes.now c.split-piece-items.ensures.rest c.split-piece-items.ensures.done c.split-piece-items.ensures.closure (λ x b q k. search (rules, tests))))
    c.loop-piece.yielded _ c.loop-piece.yielded_by _ _ c.in-Some.piece c.in-Some.is c.next.ensures.steps in
    let pieces = pieces_of c.args.bytes.now in
    let count = length c.loop-piece.yielded in
    let at = piece_here pieces count c.in-Some.piece.now (slice_get_read pieces _ count c.in-Some.piece.now refl turn.0 turn.1) in
    let (low, x, here, index) = c.in-Some-newly_declared_set.ensures.found in
    let more = declared_more pieces count c.in-Some.piece.now at c.args.names.now.keys c.loop-piece.declared.items c.loop-piece.invariant c.in-Some-newly_declared_set.place low x here index in
    subst (λ (n : ℕ). AreDeclaredWithin pieces n c.args.names.now.keys (set c.loop-piece.declared.items c.in-Some-newly_declared_set.place true)) (sym (length_push c.loop-piece.yielded c.in-Some.piece)) more

pub loop-piece-preserved : goal.loop-piece-preserved
loop-piece-preserved c =
    let turn = YieldsList-turn (YieldsList-at c.into_iter-piece-iterator.ensures.into_iter_gives
    (YieldsList-from_slice_split _ (λ b. eqb b 10) c.args.bytes.now c.split-piece-items.ensures.rest c.split-piece-items.ensures.done c.split-piece-items.ensures.closure (λ x b q k. search (rules, tests))))
    c.loop-piece.yielded _ c.loop-piece.yielded_by _ _ c.in-Some.piece c.in-Some.is c.next.ensures.steps in
    let pieces = pieces_of c.args.bytes.now in
    let count = length c.loop-piece.yielded in
    let at = piece_here pieces count c.in-Some.piece.now (slice_get_read pieces _ count c.in-Some.piece.now refl turn.0 turn.1) in
    subst (λ (n : ℕ). AreDeclaredWithin pieces n c.args.names.now.keys c.loop-piece.declared.items) (sym (length_push c.loop-piece.yielded c.in-Some.piece))
    (declared_same pieces count c.in-Some.piece.now at c.args.names.now.keys c.loop-piece.declared.items c.loop-piece.invariant (rw c.as_slice.ensures.value at c.in_default.ensures.none))

pub returns : goal.returns
returns c =
    let done = YieldsList-end (YieldsList-at c.into_iter-piece-iterator.ensures.into_iter_gives
    (YieldsList-from_slice_split _ (λ b. eqb b 10) c.args.bytes.now c.split-piece-items.ensures.rest c.split-piece-items.ensures.done c.split-piece-items.ensures.closure (λ x b q k. search (rules, tests))))
    c.loop-piece.yielded _ c.loop-piece.yielded_by _ _ c.in-None.is c.next.ensures.steps in
    declared_all (pieces_of c.args.bytes.now) (length c.loop-piece.yielded) c.args.names.now.keys c.loop-piece.declared.items done.1 c.loop-piece.invariant
