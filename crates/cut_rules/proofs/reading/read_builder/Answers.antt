-- The builder after each line.
use Rattle.std.proofs.Common.{◌+◌, ℕ, Err, eqb, length, ap, refl, sym, ◌∙◌, subst, rules, tests}
use Rattle.std.proofs.lemmas.List.{length_push}
use Rattle.std.proofs.lemmas.Option.{slice_get_read}
use Rattle.std.proofs.lemmas.Result.{err_from_is_err_and}
use Rattle.std.proofs.lemmas.Iterator.Consumers.{YieldsList-at, YieldsList-turn, YieldsList-end}
use Rattle.std.proofs.lemmas.Iterator.Splits.{YieldsList-from_slice_split}
use Rattle.cut_rules.specs.declared.fault.RulesFault.{RulesFault}
use Rattle.cut_rules.specs.Names.{names_in}
use Rattle.cut_rules.specs.Builders.{HasLines}
use Rattle.cut_rules.specs.RuleLines.{pieces_of}
use Rattle.cut_rules.proofs.TextLaws.{empty_draft}
use Rattle.cut_rules.proofs.reading.read_builder.Goals as goal

pub loop-piece-init : goal.loop-piece-init
loop-piece-init c = (refl, empty_draft c.args.context.now (pieces_of c.args.bytes.now) c.in_ok-builder.builder c.in_ok-builder.ensures)

pub take-requires-clause-present : goal.take-requires-clause-present
take-requires-clause-present c =
    let turn = YieldsList-turn (YieldsList-at c.into_iter-piece-iterator.ensures.into_iter_gives
    (YieldsList-from_slice_split _ (λ b. eqb b 10) c.args.bytes.now c.split-piece-items.ensures.rest c.split-piece-items.ensures.done c.split-piece-items.ensures.closure (λ x b q k. search (rules, tests))))
    c.loop-piece.yielded _ c.loop-piece.yielded_by _ _ c.in-Some.piece c.in-Some.is c.next.ensures.steps in
    let pieces = pieces_of c.args.bytes.now in
    let count = length c.loop-piece.yielded in
    let present = slice_get_read pieces _ count c.in-Some.piece.now refl turn.0 turn.1 in
    let (number, built) = c.loop-piece.invariant in
    let next = ap (λ (n : ℕ). n + 1) number in
    (pieces, record { place = count; number = next; present = present }, record { place = count; number = next; names = c.requires.names; built = built })

pub returns-in_err-take-clause-fault : goal.returns-in_err-take-clause-fault
returns-in_err-take-clause-fault c =
    let turn = YieldsList-turn (YieldsList-at c.into_iter-piece-iterator.ensures.into_iter_gives
    (YieldsList-from_slice_split _ (λ b. eqb b 10) c.args.bytes.now c.split-piece-items.ensures.rest c.split-piece-items.ensures.done c.split-piece-items.ensures.closure (λ x b q k. search (rules, tests))))
    c.loop-piece.yielded _ c.loop-piece.yielded_by _ _ c.in-Some.piece c.in-Some.is c.next.ensures.steps in
    let pieces = pieces_of c.args.bytes.now in
    let count = length c.loop-piece.yielded in
    let present = slice_get_read pieces _ count c.in-Some.piece.now refl turn.0 turn.1 in
    let (number, built) = c.loop-piece.invariant in
    let next = ap (λ (n : ℕ). n + 1) number in
    let given = err_from_is_err_and c.from_residual-in_err-take.result c.from_residual-in_err-take.ensures.1 in
    rw (given.1 ∙ ap (λ (e : RulesFault). Err e) given.2)
    (c.in_err-take.ensures pieces (record { place = count; number = next; present = present }) (record { place = count; number = next; names = c.requires.names; built = built }))

pub loop-piece-preserved : goal.loop-piece-preserved
loop-piece-preserved c =
    let turn = YieldsList-turn (YieldsList-at c.into_iter-piece-iterator.ensures.into_iter_gives
    (YieldsList-from_slice_split _ (λ b. eqb b 10) c.args.bytes.now c.split-piece-items.ensures.rest c.split-piece-items.ensures.done c.split-piece-items.ensures.closure (λ x b q k. search (rules, tests))))
    c.loop-piece.yielded _ c.loop-piece.yielded_by _ _ c.in-Some.piece c.in-Some.is c.next.ensures.steps in
    let pieces = pieces_of c.args.bytes.now in
    let count = length c.loop-piece.yielded in
    let present = slice_get_read pieces _ count c.in-Some.piece.now refl turn.0 turn.1 in
    let (number, built) = c.loop-piece.invariant in
    let next = ap (λ (n : ℕ). n + 1) number in
    let long = next ∙ sym (length_push c.loop-piece.yielded c.in-Some.piece) in (
      long,
      subst (λ (n : ℕ). HasLines c.args.context.now.net.now c.args.context.now.files.now (names_in c.args.context.now.names.now.sets.keys) pieces n c.take.new.self) long
          (c.in_ok-take.ensures pieces (record { place = count; number = next; present = present }) (record { place = count; number = next; names = c.requires.names; built = built })),
    )

pub returns-clause-built : goal.returns-clause-built
returns-clause-built c =
    let done = YieldsList-end (YieldsList-at c.into_iter-piece-iterator.ensures.into_iter_gives
    (YieldsList-from_slice_split _ (λ b. eqb b 10) c.args.bytes.now c.split-piece-items.ensures.rest c.split-piece-items.ensures.done c.split-piece-items.ensures.closure (λ x b q k. search (rules, tests))))
    c.loop-piece.yielded _ c.loop-piece.yielded_by _ _ c.in-None.is c.next.ensures.steps in
    let (number, built) = c.loop-piece.invariant in
    subst (λ (n : ℕ). HasLines c.args.context.now.net.now c.args.context.now.files.now (names_in c.args.context.now.names.now.sets.keys) (pieces_of c.args.bytes.now) n c.loop-piece.builder) done.1 built
