use Rattle.oscip_run.proofs.folder.visit_pending.Goals as goal

pub returns-in_err-visit_path : goal.returns-in_err-visit_path
returns-in_err-visit_path g c = λ patterns read old. c.visit_path.ensures patterns read (c.loop.invariant patterns read old)

pub loop-preserved : goal.loop-preserved
loop-preserved g c = λ patterns read old. c.visit_path.ensures patterns read (c.loop.invariant patterns read old)
