-- What a run on the modules of a tree reads and writes. Answers holds for the readings that the reader may return.
use Rattle.std.specs.Prelude.{ℕ, List, Option, Result}
use Rattle.index_run.specs.IndexRuns.{IsUnresolvedRun}
use Rattle.oscip_job.specs.declared.job.SourceTree.{SourceTree}
use Rattle.oscip_run.specs.JobRuns.{without_boolean}
use Rattle.oscip_run.specs.Readings.{Reading}
use Rattle.oscip_run.specs.TreeQuestionRuns.{IsNeverFalse}
use Rattle.oscip_run.specs.Styles.{style_of_tree}
use Rattle.oscip_run.specs.TreeRuns.{IsTreeRun}
use Rattle.oscip_run.specs.declared.fault.RunFault.{RunFault}
use Rattle.oscip_run.specs.declared.tree_run.TreeRun.{TreeRun}

-- a run that reads a tree and lists its unresolved identifiers; its Boolean is never false
abbrev pub IsUnresolvedRunOn : (Reading → Type 0) → SourceTree → Option (List ℕ) → Option (List ℕ) → Result TreeRun RunFault → Type 0
IsUnresolvedRunOn Answers tree old new result =
    IsTreeRun Answers tree (λ used ended. IsUnresolvedRun (style_of_tree tree) used old new (without_boolean ended) × IsNeverFalse ended) old new result
