use Rattle.std.proofs.Common.{◌+◌, [], ◌++◌, ℕ, eqb, length, take, ap, refl, sym, ◌∙◌, rules, tests}
use Rattle.std.proofs.lemmas.List.{length-map, length_push}
use Rattle.std.proofs.lemmas.Option.{slice_get_read}
use Rattle.std.proofs.lemmas.Iterator.Consumers.{YieldsList-at, YieldsList-turn, YieldsList-end, YieldsList-so_far}
use Rattle.std.proofs.lemmas.Iterator.Splits.{YieldsList-from_slice_split}
use Rattle.cut_net.specs.NetText.{pieces_of}
use Rattle.cut_net.specs.Prices.{SpellPrices, price_line, change_of}
use Rattle.cut_net.proofs.Noting.{none_cloned, nothing_told}
use Rattle.cut_net.proofs.LineStops.{spell_next}
use Rattle.cut_net.proofs.PriceFronts.{fault_is}
use Rattle.cut_net.proofs.prices.read_changes.Goals as goal

pub loop-piece-init : goal.loop-piece-init
loop-piece-init c =
    let many = length c.imports.result.now in
    let none = none_cloned c.in_ok-changes.changes.items many _ c.in_ok-changes.ensures.items_if_clones_equal (λ x h. h) in
    (refl, [], refl, nothing_told c.args.net.now c.in_ok-changes.changes.items many (ap length c.imports.ensures) none)

pub record_change-requires : goal.record_change-requires
record_change-requires c = let (count, lines, spelled, changes) = c.loop-piece.invariant in ap length changes.changes_are ∙ length-map c.args.net.now.imports (change_of c.args.net.now lines)

pub returns-in-Err-clause-fault : goal.returns-in-Err-clause-fault
returns-in-Err-clause-fault c =
    let turn = YieldsList-turn (YieldsList-at c.into_iter-piece-iterator.ensures.into_iter_gives
    (YieldsList-from_slice_split _ (λ b. eqb b 10) c.args.bytes.now c.split-piece-items.ensures.rest c.split-piece-items.ensures.done c.split-piece-items.ensures.closure (λ x b q k. search (rules, tests))))
    c.loop-piece.yielded _ c.loop-piece.yielded_by _ _ c.in-Some.piece c.in-Some.is c.next.ensures.steps in
    let so_far = YieldsList-so_far (YieldsList-at c.into_iter-piece-iterator.ensures.into_iter_gives
    (YieldsList-from_slice_split _ (λ b. eqb b 10) c.args.bytes.now c.split-piece-items.ensures.rest c.split-piece-items.ensures.done c.split-piece-items.ensures.closure (λ x b q k. search (rules, tests))))
    c.loop-piece.yielded _ c.loop-piece.yielded_by in
    let (count, lines, spelled, changes) = c.loop-piece.invariant in
    let prefix : SpellPrices (take (length c.loop-piece.yielded) (pieces_of c.args.bytes.now)) lines = rw (← so_far) spelled in
    let present = slice_get_read (pieces_of c.args.bytes.now) _ (length c.loop-piece.yielded) c.in-Some.piece.now refl turn.0 turn.1 in
    let next = ap (λ (n : ℕ). n + 1) count in
    rw c.at.ensures (fault_is c.args.net.now c.args.bytes.now (length c.loop-piece.yielded) _ lines c.in-Some.piece.now c.in-Err.fault c.record_change.new.changes.items next prefix changes.good present (c.in-Err.ensures lines changes))

pub loop-piece-preserved : goal.loop-piece-preserved
loop-piece-preserved c =
    let (count, lines, spelled, changes) = c.loop-piece.invariant in
    let (more, last, whole) = c.in_default.ensures lines changes in
    (ap (λ (n : ℕ). n + 1) count ∙ sym (length_push c.loop-piece.yielded c.in-Some.piece), lines ++ more, spell_next price_line _ c.loop-piece.yielded c.in-Some.piece lines more spelled last, whole)

pub returns-clause-changes : goal.returns-clause-changes
returns-clause-changes c =
    let done = YieldsList-end (YieldsList-at c.into_iter-piece-iterator.ensures.into_iter_gives
    (YieldsList-from_slice_split _ (λ b. eqb b 10) c.args.bytes.now c.split-piece-items.ensures.rest c.split-piece-items.ensures.done c.split-piece-items.ensures.closure (λ x b q k. search (rules, tests))))
    c.loop-piece.yielded _ c.loop-piece.yielded_by _ _ c.in-None.is c.next.ensures.steps in
    let (count, lines, spelled, changes) = c.loop-piece.invariant in
    (lines, rw (← done.0) spelled, changes)
