-- The block that the entry names, if it begins before.
use Rattle.ob_scope.proofs.Blocks.{directly_in, in_none, in_none_before}
use Rattle.ob_scope.proofs.resolve.enclosing_block.Goals as goal

pub returns-in_err-at-clause-none : goal.returns-in_err-at-clause-none
returns-in_err-at-clause-none c = rw c.from_residual.ensures (in_none c.args.blocks.now c.args.block c.in_err-at.ensures.none)

pub returns-then-outer-block-clause-found : goal.returns-then-outer-block-clause-found
returns-then-outer-block-clause-found c = directly_in c.args.blocks.now c.in_ok-at.at c.args.block _ c.in_ok-at.ensures.found c.if-outer-block.true

pub returns-else-outer-block-clause-none : goal.returns-else-outer-block-clause-none
returns-else-outer-block-clause-none c = in_none_before c.args.blocks.now c.requires c.in_ok-at.at c.args.block _ c.in_ok-at.ensures.found c.if-outer-block.false
