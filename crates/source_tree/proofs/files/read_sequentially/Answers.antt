use Rattle.std.proofs.Common.{◌<◌, [], length, rules}
use Rattle.std.proofs.lemmas.Result.{err_from_is_err_and}
use Rattle.source_tree.proofs.ReadFiles.{all_next, all_none, first_fault}
use Rattle.source_tree.proofs.files.read_sequentially.Goals as goal

pub loop-source-init : goal.loop-source-init
loop-source-init g c = ([], rw c.new-all.ensures.items (all_none g.K.FromSource.is_of))

pub loop-source-preserved : goal.loop-source-preserved
loop-source-preserved g c =
    let within : c.loop-source.source-index < length c.args.sources.now = search rules in
    rw c.in_ok-push.ensures.items
    (all_next g.K.FromSource.is_of c.args.sources.now c.loop-source.source-index c.source-item.result c.loop-source.all.items c.in_ok-from_source.field-0 within c.source-item.is c.loop-source.invariant c.in_ok-from_source.ensures.kept)

pub returns-in_err-from_source : goal.returns-in_err-from_source
returns-in_err-from_source g c =
    let within : c.loop-source.source-index < length c.args.sources.now = search rules in
    let p = err_from_is_err_and c.from_residual.result c.from_residual.ensures.1 in
    rw (p.1, p.2)
    (first_fault c.args.sources.now c.loop-source.source-index c.source-item.result c.loop-source.invariant.0 _ within c.source-item.is c.loop-source.invariant.1.accepted c.in_err-from_source.ensures.fault)
