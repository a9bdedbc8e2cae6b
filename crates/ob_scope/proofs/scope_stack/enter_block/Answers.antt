-- If the block is already the innermost one, nothing changes.
use Rattle.std.proofs.Common.{[], List, ℕ, subst, sym, append-nil}
use Rattle.ob_scope.specs.Visibility.{IsInnermost}
use Rattle.ob_scope.proofs.Opening.{enter_same}
use Rattle.ob_scope.proofs.scope_stack.enter_block.Goals as goal

pub returns-then-is_innermost : goal.returns-then-is_innermost
returns-then-is_innermost c =
    let stack = c.args.scope_stack.now.stack.items in
    enter_same c.args.blocks.now c.args.block c.args.scope_stack.now.watermark stack [] stack (sym (append-nil stack)) c.requires.chain
    (subst (λ (s : List ℕ). IsInnermost s c.args.block) c.as_slice.ensures.value (c.is_innermost.ensures.yes c.if-is_innermost.true))
