use Rattle.std.proofs.Common.{◌≡◌, ◌+◌, ◌<◌, ◌++◌, ◌∷◌, [], length, sym, arith}
use Rattle.std.proofs.lemmas.Bool.{eqb-true}
use Rattle.std.proofs.lemmas.List.{length_push}
use Rattle.cut_net.proofs.Ahead.{all_spelled, leaves_on, repeat_at, some_are}
use Rattle.cut_net.proofs.LineStops.{spell_more}
use Rattle.cut_net.specs.NetText.{net_line}
use Rattle.cut_net.proofs.line_list.fill_list.Goals as goal

pub loop-rest-preserved : goal.loop-rest-preserved
loop-rest-preserved c =
    let (prefix, lines, count, below, leaves, spelled, list) = c.loop-rest.invariant in
    let (piece, more, says, next, listed) = c.in-Ok.ensures.goes_on lines list in
    let some : 0 < length c.loop-rest.rest.now = some_are c.loop-rest.rest.now c.is_empty.result c.is_empty.ensures c.loop-rest-test.true in
    let less = c.in-Ok.ensures.shorter some in
    let long = length_push prefix piece in
    (prefix ++ piece ∷ [], lines ++ more, omega arith, omega arith, leaves_on c.args.bytes.now c.loop-rest.rest.now c.in-Ok.after.now prefix piece leaves some next, spell_more net_line prefix piece lines more spelled says, listed)

pub returns-in-Err-RepeatedImport-clause-twice : goal.returns-in-Err-RepeatedImport-clause-twice
returns-in-Err-RepeatedImport-clause-twice c line is =
    let (prefix, lines, count, below, leaves, spelled, list) = c.loop-rest.invariant in
    let some : 0 < length c.loop-rest.rest.now = some_are c.loop-rest.rest.now c.is_empty.result c.is_empty.ensures c.loop-rest-test.true in
    let number : c.loop-rest.line + 1 ≡ line = cc in
    repeat_at c.args.bytes.now c.loop-rest.rest.now prefix lines c.consume_line.new.self line (omega (arith, number, count)) leaves some spelled (c.in-Err-RepeatedImport.ensures.twice c.in-Err-RepeatedImport.field-0-is lines list)

pub returns-clause-whole : goal.returns-clause-whole
returns-clause-whole c is =
    let (prefix, lines, count, below, leaves, spelled, list) = c.loop-rest.invariant in
    (lines, all_spelled c.args.bytes.now c.loop-rest.rest.now prefix lines (eqb-true _ _ (sym c.loop-rest-test.ensures)) leaves spelled, list)
