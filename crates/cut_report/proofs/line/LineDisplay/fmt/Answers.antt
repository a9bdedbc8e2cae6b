use Rattle.std.proofs.Common.{codes}
use Rattle.cut_report.specs.Lines.{words_of}
use Rattle.cut_report.proofs.Words.{joined, some_word, with_word}
use Rattle.cut_report.proofs.line.LineDisplay.fmt.Goals as goal

pub returns-in-Blocks-clause-writes : goal.returns-in-Blocks-clause-writes
returns-in-Blocks-clause-writes g c plain ok =
    rw (c.in-Blocks.is, with_word (codes "blocked") (words_of c.in-Blocks.names.now) (some_word c.in-Blocks.names.now), joined c.in-Blocks.names.now) (c.write-in-Blocks.ensures.writes plain ok)
