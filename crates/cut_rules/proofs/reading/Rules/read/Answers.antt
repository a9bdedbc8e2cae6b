use Rattle.std.proofs.Common.{refl}
use Rattle.cut_rules.specs.RuleLines.{pieces_of}
use Rattle.cut_rules.proofs.TextLaws.{fault_low}
use Rattle.cut_rules.proofs.reading.Rules.read.Goals as goal

pub returns-clause-rules : goal.returns-clause-rules
returns-clause-rules c =
    let built = c.in_ok-table.ensures.built in
    record {
      sound = λ line fault has. built.sound line fault (fault_low c.args.net.now c.args.files.now (pieces_of c.args.bytes.now) line fault has).1 has;
      files_are = refl;
      table = built.table;
      rules = built.rules;
      allowed = built.allowed;
      stale = built.stale;
    }
