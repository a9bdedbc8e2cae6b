use Rattle.oscip_run.specs.Readings.{returned_bytes}
use Rattle.oscip_run.proofs.FileRuns.{tree_run}
use Rattle.oscip_run.proofs.tree_run.run_net_question.Goals as goal

pub returns-clause-run : goal.returns-clause-run
returns-clause-run g c =
    tree_run (g.F.Reader.answers c.args.reader.now) c.args.question.now c.args.sources.now _ (returned_bytes c.in_ok-beside.beside.report) (returned_bytes c.in_ok-beside.beside.prices) _ _ _ _
    c.in_ok-beside.ensures.given c.bytes_or_empty-report.ensures c.as_deref-prices.ensures.value c.answer_tree_net_question.ensures.run
