use Rattle.index_run.proofs.AcceptedRuns.{accepted_same}
use Rattle.index_run.proofs.laws.accepted_index_bytes_are_unique.Goals as goal

pub returns : goal.returns
returns c = accepted_same
