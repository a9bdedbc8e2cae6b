-- The block is innermost already, or is opened in the one around it.
use Rattle.std.proofs.Common.{◌≤◌, ◌++◌, ◌∷◌, [], List, ℕ, Result, Ok, Err, OnOk, ap, subst, ◌∙◌, arith}
use Rattle.ob_scope.specs.declared.scope_stack.ScopeStack.{ScopeStack}
use Rattle.ob_scope.specs.Visibility.{IsInnermost}
use Rattle.std.proofs.Common.{◌<◌, inl, inr, sym}
use Rattle.std.proofs.lemmas.Bool.{false≢true}
use Rattle.ob_scope.proofs.Opening.{enter_inner, enter_outermost, enter_same, may_outer, never_opened, open_ascend, open_front}
use Rattle.ob_scope.proofs.scope_stack.+open_enclosing.Goals as goal
use Rattle.ob_scope.proofs.scope_stack.+open_enclosing.Goals.{in-Some+in_ok-open_enclosing-in-Some, in-None}

pub returns-then-is_innermost : goal.returns-then-is_innermost
returns-then-is_innermost t c =
    let (rest, prefix) = c.close_later_blocks.ensures.prefix in
    enter_same c.args.blocks.now c.args.block c.args.scope_stack.now.watermark c.close_later_blocks.new.stack.items rest c.args.scope_stack.now.stack.items prefix c.requires.chain
    (subst (λ (stack : List ℕ). IsInnermost stack c.args.block) c.as_slice.ensures.value (c.is_innermost.ensures.yes c.if-is_innermost.true))

pub close_later_blocks-requires : goal.close_later_blocks-requires
close_later_blocks-requires t c = open_ascend c.args.blocks.now c.args.scope_stack.now.stack.items c.requires.chain.chain

pub open_enclosing-requires : goal.open_enclosing-requires
open_enclosing-requires t c =
    let (rest, prefix) = c.close_later_blocks.ensures.prefix in
    let measure = c.decreases in
    let behind = c.in-Some.ensures.found.behind in (
      omega arith,
      (
        c.requires.sorted,
        (
          open_front c.args.blocks.now c.args.scope_stack.now.watermark c.close_later_blocks.new.stack.items rest c.args.scope_stack.now.stack.items prefix c.requires.chain,
          may_outer c.args.blocks.now c.args.block c.args.scope_stack.now.watermark c.args.scope_stack.now.stack.items c.requires.may c.close_later_blocks.new.stack.items c.close_later_blocks.ensures.kept c.in-Some.outer c.in-Some.ensures.found,
        ),
      ),
    )

on_ok : {T E Q R S : Type 0} (r : Result T E) → (Q → R → S) → OnOk r Q → OnOk r R → OnOk r S
on_ok (Ok x) f q r = f q r
on_ok (Err e) f q r = tt

pub returns : goal.returns
returns t c =
    let (rest, prefix) = c.close_later_blocks.ensures.prefix in
    let block = c.args.block in
    let since = c.args.scope_stack.now.watermark in
    let all = c.args.scope_stack.now.stack.items in
    let xs = c.close_later_blocks.new.stack.items in
    let chain = open_front c.args.blocks.now since xs rest all prefix c.requires.chain in
    let other : IsInnermost xs block → ⊥ = λ h. false≢true (sym c.if-is_innermost.false ∙ c.is_innermost.ensures.no (subst (λ (stack : List ℕ). IsInnermost stack block) (sym c.as_slice.ensures.value) h)) in
    let new : since ≤ block = never_opened c.args.blocks.now block since all c.requires.may xs c.close_later_blocks.ensures.kept (open_ascend c.args.blocks.now xs chain.chain) c.close_later_blocks.ensures.left other in
    elim c.match-enclosing_block.branch [
      | in-Some+in_ok-open_enclosing-in-Some w ↦ (
          let inner : w.in-Some.outer < block = w.in-Some.ensures.found.behind in
          on_ok c.push_block.result
          (λ is later. enter_inner c.args.blocks.now w.in-Some.outer block since w.open_enclosing.new.scope_stack.watermark c.push_block.new.scope_stack.watermark all xs rest w.open_enclosing.new.scope_stack.stack.items c.push_block.new.scope_stack.stack.items
          prefix w.in_ok-open_enclosing-in-Some.ensures w.in-Some.ensures.found
          (elim w.in_ok-open_enclosing-in-Some.ensures.last [ inl same ↦ omega (arith, same, new) | inr now ↦ omega (arith, now, inner) ])
          (is ∙ ap (λ (o : ScopeStack). o.stack.items ++ block ∷ []) w.scope_stack-is) later)
          c.push_block.ensures.stack c.push_block.ensures.later)
      | in-None w ↦ (
          on_ok c.push_block.result
          (λ is later. enter_outermost c.args.blocks.now block since c.push_block.new.scope_stack.watermark all c.push_block.new.scope_stack.stack.items w.in-None.ensures.none
          new
          (is ∙ ap (λ (o : ScopeStack). o.stack.items ++ block ∷ []) w.scope_stack-is ∙ ap (λ (xs : List ℕ). xs ++ block ∷ []) w.clear.ensures.items) later)
          c.push_block.ensures.stack c.push_block.ensures.later)
    ]
