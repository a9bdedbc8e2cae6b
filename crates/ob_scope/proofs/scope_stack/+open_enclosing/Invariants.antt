use Rattle.ob_scope.proofs.scope_stack.+open_enclosing.Given as goal

abbrev pub decreases-open_enclosing : goal.decreases-open_enclosing
decreases-open_enclosing l = l.block
