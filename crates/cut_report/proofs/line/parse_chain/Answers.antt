use Rattle.std.proofs.Common.{refl}
use Rattle.std.proofs.lemmas.Bool.{false_from_ne_true}
use Rattle.cut_report.specs.Lines.{blocks_of}
use Rattle.cut_report.proofs.Words.{words_are_text}
use Rattle.cut_report.proofs.line.parse_chain.Goals as goal

pub returns-in-Err : goal.returns-in-Err
unfolding blocks_of
returns-in-Err c = rw (false_from_ne_true _ (λ t. absurd (c.in-Err.ensures.cases.0 (words_are_text c.args.fields.now t)))) refl
