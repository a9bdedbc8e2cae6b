use Rattle.std.proofs.Common.{◌∷◌, [], refl, sym}
use Rattle.std.proofs.lemmas.Result.{on_ok_weaker, IfErr-weaker}
use Rattle.cut_net.specs.NetReading.{line_content}
use Rattle.cut_net.proofs.NetLines.{line_takes}
use Rattle.cut_net.proofs.Tables.{written_is}
use Rattle.cut_net.proofs.line_list.LineList.take.Goals as goal

pub returns-clause-listed : goal.returns-clause-listed
returns-clause-listed c =
    let claim = line_takes c.args.piece.now _ (sym c.in-Some.ensures) in
    let written = written_is c.args.piece.now c.is_empty.result c.is_empty.ensures c.if-is_empty.false in
    on_ok_weaker c.add.result (λ listed before h. (_ ∷ [], rw (written, sym claim.0) refl, listed before h claim.1)) c.add.ensures.listed

pub returns-clause-twice : goal.returns-clause-twice
returns-clause-twice c =
    let claim = line_takes c.args.piece.now _ (sym c.in-Some.ensures) in
    IfErr-weaker c.add.result _ _ (λ stop changes is before h. (line_content c.in-Some.line, sym claim.0, claim.1, changes is before h)) c.add.ensures.twice
