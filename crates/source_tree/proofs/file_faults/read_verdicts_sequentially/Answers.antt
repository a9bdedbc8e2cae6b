use Rattle.std.proofs.Common.{◌<◌, length, rules}
use Rattle.source_tree.proofs.FileFaults.{verdict_next}
use Rattle.source_tree.proofs.file_faults.read_verdicts_sequentially.Goals as goal

pub loop-source-preserved : goal.loop-source-preserved
loop-source-preserved c =
    let within : c.loop-source.source-index < length c.args.sources.now = search rules in
    rw c.in_ok-push.ensures.items
    (verdict_next c.args.sources.now c.loop-source.source-index c.source-item.result c.loop-source.all.items c.in_ok-read_verdict.field-0 within c.source-item.is c.loop-source.invariant c.in_ok-read_verdict.ensures)
