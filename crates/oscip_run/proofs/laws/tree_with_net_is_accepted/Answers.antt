use Rattle.oscip_run.proofs.NoRefusal.{no_refusal}
use Rattle.oscip_run.proofs.laws.tree_with_net_is_accepted.Goals as goal

pub returns : goal.returns
returns c = no_refusal
