use Rattle.std.proofs.Common.{Err, Result, Bool, subst, sym}
use Rattle.std.specs.Process.{exit_status}
use Rattle.oscip_run.specs.Endings.{EndsByFault, EndsRun}
use Rattle.oscip_run.specs.declared.fault.RunFault.{RunFault}
use Rattle.oscip_run.specs.declared.fault.RunFault.TheVariants.{Memory}
use Rattle.oscip_run.proofs.ending.finish_run.Goals as goal

pub returns-in-Err-line : goal.returns-in-Err-line
returns-in-Err-line g c = λ style told.
    let taken = g.E.Sink.taken in
    let old = c.args.stderr.now in
    let new = c.finish_out_of_memory.new.stderr in
    let ends = subst (EndsByFault taken style Memory old new) (sym c.from-in-Err-line.ensures) (c.finish_out_of_memory.ensures style) in
    let of_line = subst (λ l. EndsRun taken style (Err c.in-Err.fault) l old new (exit_status c.from-in-Err-line.result)) (sym c.in-Err-line.is) ends in
    subst (λ (e : Result Bool RunFault). EndsRun taken style e c.args.line old new (exit_status c.from-in-Err-line.result)) (sym c.in-Err.is) of_line
