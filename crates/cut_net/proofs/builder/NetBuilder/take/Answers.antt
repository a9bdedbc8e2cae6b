use Rattle.std.proofs.Common.{sym}
use Rattle.cut_net.proofs.NetLines.{no_line, line_takes}
use Rattle.cut_net.proofs.Tables.{takes_from_adds, not_read, written_is}
use Rattle.cut_net.proofs.builder.NetBuilder.take.Goals as goal

pub returns-in_default : goal.returns-in_default
returns-in_default c before h = (written_is c.args.piece.now c.is_empty.result c.is_empty.ensures c.if-is_empty.false, no_line c.args.piece.now (not_read c.parse_line.result _ c.parse_line.ensures c.in_default.not-Some))

pub returns : goal.returns
returns c before h =
    let claim = line_takes c.args.piece.now _ (sym c.in-Some.ensures) in
    takes_from_adds before c.args.piece.now _ _ _ (written_is c.args.piece.now c.is_empty.result c.is_empty.ensures c.if-is_empty.false) (sym claim.0) claim.1 (c.add.ensures before h claim.1)
