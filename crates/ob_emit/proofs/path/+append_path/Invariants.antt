use Rattle.ob_emit.proofs.path.+append_path.Given as goal

abbrev pub decreases-append_path : goal.decreases-append_path
decreases-append_path g l = l.number
