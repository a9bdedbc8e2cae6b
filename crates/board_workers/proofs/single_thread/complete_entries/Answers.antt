use Rattle.std.proofs.Common.{arith}
use Rattle.std.proofs.lemmas.Grind.{common_steps}
use Rattle.board_workers.proofs.single_thread.complete_entries.Goals as goal

pub unwrap_entries-requires : goal.unwrap_entries-requires
unwrap_entries-requires g c = rw c.gather.ensures.entries c.in_ok-deliver_missing.ensures

pub returns-clause-entries : goal.returns-clause-entries
returns-clause-entries g c = grind (arith, common_steps)
