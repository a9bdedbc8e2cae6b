use Rattle.std.proofs.Common.{sym, arith}
use Rattle.std.proofs.lemmas.List.{nil_from_length}
use Rattle.texts.proofs.FieldCuts.{cut_takes}
use Rattle.cut_net.proofs.Ahead.{last_goes_on, last_repeats, piece_goes_on, piece_repeats, shorter_by}
use Rattle.cut_net.proofs.line_list.LineList.consume_first.Goals as goal

pub returns-in-Ok-clause-goes_on : goal.returns-in-Ok-clause-goes_on
returns-in-Ok-clause-goes_on c before h =
    let long = c.split_at.ensures.back_len in
    let more = c.in-Ok.ensures.listed before h in
    last_goes_on c.args.text.now c.split_at.result.1.now before more.0 c.take.new.self (sym c.in_default.ensures) (nil_from_length _ (omega arith)) more.1 more.2

pub returns-in-Err-clause-twice : goal.returns-in-Err-clause-twice
returns-in-Err-clause-twice c is before h =
    let changes = c.in-Err.ensures.twice is before h in
    last_repeats c.args.text.now before changes.0 c.take.new.self (sym c.in_default.ensures) changes.1 changes.2 changes.3

pub returns-in-Ok-take-clause-goes_on : goal.returns-in-Ok-take-clause-goes_on
returns-in-Ok-take-clause-goes_on c before h =
    let more = c.in-Ok-take.ensures.listed before h in
    piece_goes_on c.args.text.now c.in-Some.piece.now c.in-Some.rest.now before more.0 c.take-2.new.self (sym c.in-Some.ensures) more.1 more.2

pub returns-in-Ok-take-clause-shorter : goal.returns-in-Ok-take-clause-shorter
returns-in-Ok-take-clause-shorter c some = shorter_by c.args.text.now c.in-Some.piece.now c.in-Some.rest.now (cut_takes 10 c.args.text.now _ (sym c.in-Some.ensures))

pub returns-in-Err-take-clause-twice : goal.returns-in-Err-take-clause-twice
returns-in-Err-take-clause-twice c is before h =
    let changes = c.in-Err-take.ensures.twice is before h in
    piece_repeats c.args.text.now c.in-Some.piece.now c.in-Some.rest.now before changes.0 c.take-2.new.self (sym c.in-Some.ensures) changes.1 changes.2 changes.3
