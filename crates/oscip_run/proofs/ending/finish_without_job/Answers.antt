use Rattle.std.proofs.Common.{inr, refl, subst, sym}
use Rattle.std.specs.Process.{exit_status}
use Rattle.oscip_job.specs.declared.job.JobFault.{JobFault}
use Rattle.oscip_run.specs.Endings.{EndsByFault, EndsWithoutJob}
use Rattle.oscip_run.specs.Streams.{WritesPrefix}
use Rattle.oscip_run.specs.declared.fault.RunFault.TheVariants.{Device, Memory}
use Rattle.texts.specs.Places.{plain_style}
use Rattle.oscip_run.proofs.ending.finish_without_job.Goals as goal

pub returns-in-Err : goal.returns-in-Err
returns-in-Err g c =
    let old = c.args.stderr.now in
    let new = c.finish_with_fault-status.new.stderr in
    subst (λ (f : JobFault). EndsWithoutJob g.O.Sink.taken g.E.Sink.taken f (c.args.stdout.now, c.write-in-Help.new.self) (old, new) (exit_status c.from-in-Err.result)) (sym c.in-Help.is)
    (inr (
      subst (WritesPrefix g.O.Sink.taken c.args.stdout.now c.write-in-Help.new.self) c.as_str-in-Help.ensures.value c.in-Err.ensures.written,
      subst (EndsByFault g.E.Sink.taken plain_style Device old new) (sym c.from-in-Err.ensures) (c.finish_with_fault-status.ensures plain_style refl),
    ))

pub returns-in-Memory : goal.returns-in-Memory
returns-in-Memory g c =
    let old = c.args.stderr.now in
    let new = c.finish_out_of_memory.new.stderr in
    subst (λ (f : JobFault). EndsWithoutJob g.O.Sink.taken g.E.Sink.taken f (c.args.stdout.now, c.args.stdout.now) (old, new) (exit_status c.from-in-Memory.result)) (sym c.in-Memory.is)
    (subst (EndsByFault g.E.Sink.taken plain_style Memory old new) (sym c.from-in-Memory.ensures) (c.finish_out_of_memory.ensures plain_style), refl)
