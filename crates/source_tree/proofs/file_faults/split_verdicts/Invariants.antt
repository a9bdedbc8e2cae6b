use Rattle.std.proofs.Common.{◌≡◌, ◌++◌}
use Rattle.std.specs.Vec.Iter.{into_iter_items}
use Rattle.source_tree.specs.FileFaults.{faults_in, scopes_in}
use Rattle.source_tree.proofs.file_faults.split_verdicts.Given as goal

abbrev pub invariant-loop-verdict : goal.invariant-loop-verdict
invariant-loop-verdict l = record {
  scopes : scopes_in l.fn.verdicts.items ≡ l.scopes.items ++ scopes_in (into_iter_items l.verdict-iterator);
  faults : faults_in l.fn.verdicts.items ≡ l.faults.items ++ faults_in (into_iter_items l.verdict-iterator);
}
