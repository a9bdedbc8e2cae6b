use Rattle.std.proofs.Common.{refl}
use Rattle.oscip_run.proofs.ending.finish_out_of_memory.Goals as goal

pub returns : goal.returns
returns g c = λ style. c.finish_with_fault.ensures style refl
