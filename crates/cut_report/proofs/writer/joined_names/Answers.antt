use Rattle.std.proofs.Common.{sym, ◌∙◌, arith}
use Rattle.cut_net.specs.Network.{name_of}
use Rattle.cut_report.proofs.Words.{words_next}
use Rattle.std.proofs.lemmas.Grind.{common_steps}
use Rattle.cut_report.proofs.writer.joined_names.Goals as goal

pub loop-k-preserved : goal.loop-k-preserved
loop-k-preserved c =
    c.in_ok-append_word.ensures ∙ rw (c.loop-k.invariant, c.name.ensures) (sym (words_next (name_of c.args.net.now) c.args.modules.now c.loop-k.k 0 c.loop-k-test.true))

pub returns : goal.returns
returns c = grind (arith, common_steps)
