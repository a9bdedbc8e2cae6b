-- A member in a block that is entered, or a field.
use Rattle.std.proofs.Common.{length, refl, ap, ◌∙◌}
use Rattle.ob_scope.specs.declared.bindings.Bindings.{Bindings}
use Rattle.ob_scope.proofs.OnWalk.{may_member, way_bound, way_field}
use Rattle.ob_scope.proofs.SightSteps.{sight_bound, sight_field}
use Rattle.ob_scope.proofs.bindings.declare_member.Goals as goal
use Rattle.ob_scope.proofs.bindings.declare_member.Goals.{in-Block+in_ok-enter_block, in_default}

pub enter_block-requires-clause-may : goal.enter_block-requires-clause-may
enter_block-requires-clause-may c =
    let (uses, token, walk) = c.requires.walk in
    may_member c.args.blocks.now c.args.members.now uses c.args.bindings.now token walk _ c.in-Block.block c.requires.more c.in-Block.is c.requires.blocks c.requires.bindings.scope_stack

pub returns-clause-walk : goal.returns-clause-walk
returns-clause-walk c = λ uses token cursor walk.
    let s = c.args.bindings.now in
    elim c.match-members-at.branch [
      | in-Block+in_ok-enter_block w ↦ (
          way_bound c.args.blocks.now c.args.members.now uses s token walk _ w.in-Block.block c.requires.more w.in-Block.is _ w.enter_block.new.scope_stack c.requires.members cursor w.in_ok-enter_block.ensures
          (ap (λ (x : Bindings). x.«open») w.bindings-is ∙ w.bind_name.ensures.«open») refl)
      | in_default w ↦ way_field c.args.blocks.now c.args.members.now uses s token walk _ (ap (λ (x : Bindings). x.«open») w.bindings-is) refl
    ]

pub returns-clause-bindings : goal.returns-clause-bindings
returns-clause-bindings c =
    let s = c.args.bindings.now in
    elim c.match-members-at.branch [
      | in-Block+in_ok-enter_block w ↦ (
          sight_bound c.args.blocks.now c.args.members.now c.args.numbers.now (length s.latest.items) s _ _ w.in-Block.block w.enter_block.new.scope_stack c.requires.blocks c.requires.bindings c.requires.more
          (c.requires.within s.next c.requires.more) w.in-Block.is w.in_ok-enter_block.ensures
          (ap (λ (x : Bindings). x.«open») w.bindings-is ∙ w.bind_name.ensures.«open») refl
          (ap (λ (x : Bindings). x.latest.items) w.bindings-is ∙ w.bind_name.ensures.latest)
          (ap (λ (x : Bindings). x.earlier.items) w.bindings-is ∙ w.bind_name.ensures.earlier))
      | in_default w ↦ (
          sight_field c.args.blocks.now c.args.members.now c.args.numbers.now (length s.latest.items) s _ _ c.requires.bindings c.requires.more w.in_default.not-Block
          (ap (λ (x : Bindings). x.«open») w.bindings-is) refl (ap (λ (x : Bindings). x.latest.items) w.bindings-is) (ap (λ (x : Bindings). x.earlier.items) w.bindings-is))
    ]
