use Rattle.std.proofs.Common.{◌∙◌, length, sym, ap}
use Rattle.cut_net.proofs.NetLines.{word_alone, word_joined, word_missing, word_there}
use Rattle.cut_net.proofs.lines.fields_after_keyword.Goals as goal

pub returns-in_err-rest : goal.returns-in_err-rest
returns-in_err-rest c = rw c.from_residual.ensures (sym (word_missing c.args.word.now c.args.piece.now c.in_err-rest.ensures.cases))

pub returns-in_err-blank : goal.returns-in_err-blank
returns-in_err-blank c =
    rw c.from_residual-in_err-blank.ensures (sym (word_alone c.args.word.now c.args.piece.now (ap length (sym c.in_ok-rest.ensures.cases.1) ∙ c.in_err-blank.ensures.cases)))

pub returns-then-blank-eq32 : goal.returns-then-blank-eq32
returns-then-blank-eq32 c =
    let rest = c.in_ok-rest.ensures.cases in
    sym (word_there c.args.word.now c.args.piece.now c.in_ok-blank.blank.now c.in_ok-blank.fields.now c.requires rest.0 (sym rest.1 ∙ c.in_ok-blank.ensures.cases.0) c.if-blank-eq32.true)

pub returns-else-blank-eq32 : goal.returns-else-blank-eq32
returns-else-blank-eq32 c =
    let rest = c.in_ok-rest.ensures.cases in
    sym (word_joined c.args.word.now c.args.piece.now c.in_ok-blank.blank.now c.in_ok-blank.fields.now (sym rest.1 ∙ c.in_ok-blank.ensures.cases.0) c.if-blank-eq32.false)
