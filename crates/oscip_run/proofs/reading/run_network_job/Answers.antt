use Rattle.oscip_run.specs.Readings.{returned_bytes}
use Rattle.oscip_run.proofs.FileRuns.{net_run}
use Rattle.oscip_run.proofs.reading.run_network_job.Goals as goal

pub returns-clause-run : goal.returns-clause-run
returns-clause-run g c =
    net_run (g.F.Reader.answers c.args.reader.now) c.args.network.now c.args.question.now c.in_ok-network.network.items _ _ (returned_bytes c.in_ok-beside.beside.report) (returned_bytes c.in_ok-beside.beside.prices) _ _ _ _
    c.in_ok-network.ensures.given c.in_ok-beside.ensures.given c.as_slice-network.ensures.value c.bytes_or_empty-report.ensures c.as_deref-prices.ensures.value c.answer_net_question.ensures.run
