use Rattle.std.proofs.Common.{refl}
use Rattle.std.proofs.lemmas.Result.{err_from_is_err_and}
use Rattle.cut_report.specs.Reading.{entry_of}
use Rattle.oscip_run.specs.DotRuns.{IsAskedPicture}
use Rattle.oscip_run.proofs.DotRuns.{drawn, flow_ascends, refused, removed_ascend}
use Rattle.oscip_run.proofs.drawing.draw_report.Goals as goal

pub write_picture-requires-clause-from : goal.write_picture-requires-clause-from
write_picture-requires-clause-from g c = c.in_ok-report.ensures.exact.report.from

pub write_picture-requires-clause-to : goal.write_picture-requires-clause-to
write_picture-requires-clause-to g c = c.in_ok-report.ensures.exact.report.to

pub write_picture-requires-clause-removed : goal.write_picture-requires-clause-removed
write_picture-requires-clause-removed g c = removed_ascend c.args.net.now c.in_ok-report.report.answer c.in_ok-report.ensures.exact.report.says

pub write_picture-requires-clause-flow : goal.write_picture-requires-clause-flow
write_picture-requires-clause-flow g c = flow_ascends c.args.net.now c.in_ok-report.report.answer c.in_ok-report.ensures.exact.report.says

pub returns-in_err-report-clause-run : goal.returns-in_err-report-clause-run
returns-in_err-report-clause-run g c =
    let p = err_from_is_err_and c.from_residual.result c.from_residual.ensures.1 in
    rw (p.1, p.2) (refused (IsAskedPicture c.args.by_flow) c.args.net.now _ _ _ c.in_err-report.ensures.exact)

pub returns-in_err-write_picture-clause-run : goal.returns-in_err-write_picture-clause-run
returns-in_err-write_picture-clause-run g c =
    let p = err_from_is_err_and c.from_residual-in_err-write_picture.result c.from_residual-in_err-write_picture.ensures.1 in
    rw (p.1, p.2) (drawn (IsAskedPicture c.args.by_flow) c.args.net.now _ c.in_ok-report.report _ _ _ c.in_ok-report.ensures.exact c.in_err-write_picture.ensures.run)

pub returns-clause-run : goal.returns-clause-run
returns-clause-run g c =
    let put = c.in_ok-write_picture.ensures.run in
    (put.0, record { net = c.args.net.now; reads = refl; entry = entry_of c.in_ok-report.report; says = c.in_ok-report.ensures.exact; picture = put.1 }, put.2)
