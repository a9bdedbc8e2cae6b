-- The members visible after the block is entered.
use Rattle.std.proofs.Common.{◌≡◌, ℕ, List, Some, length, refl, ap, ◌∙◌, subst, arith}
use Rattle.std.specs.Prelude.{slice_get, IfSome}
use Rattle.scopes.specs.declared.members.Member.{Member}
use Rattle.ob_scope.specs.Visibility.{IsOpenScope}
use Rattle.ob_scan.specs.Texts.{text_at}
use Rattle.module_table.proofs.Elements.{slice_there}
use Rattle.ob_scope.proofs.OnWalk.{may_use, way_used}
use Rattle.ob_scope.proofs.SightSteps.{look_ascend, look_falls, look_found, look_none, look_same, look_sight, look_start, look_unnamed, look_within, sight_as, IsLookUp}
use Rattle.ob_scope.proofs.bindings.resolve_name.Goals as goal
use Rattle.ob_scope.proofs.bindings.resolve_name.Goals.{In_ok-enter_block}

pub declare_members_before-requires-clause-within : goal.declare_members_before-requires-clause-within
declare_members_before-requires-clause-within c = λ k l.
    let x = slice_there c.args.members.now k l in
    let within = c.requires.numbered.within k x.0 x.1 in
    let named = c.requires.bindings.named in
    rw c.as_slice.ensures.value (omega arith)

look_up : (c : In_ok-enter_block)
    → IsLookUp (text_at c.args.text.now.bytes.now c.args.text.now.tokens.now) c.args.blocks.now c.args.members.now c.args.named.now.names.keys c.args.named.now.numbers.items c.args.block c.args.token c.declare_members_before.new.bindings c.enter_block.new.scope_stack
look_up c = record {
  numbered = c.requires.numbered;
  sorted = c.requires.blocks;
  bindings = sight_as c.args.blocks.now c.args.members.now c.as_slice.result.now c.args.named.now.numbers.items (length c.args.bindings.now.latest.items) (length c.args.named.now.names.keys) c.declare_members_before.new.bindings c.as_slice.ensures.value c.requires.bindings.named c.in_ok-declare_members_before.ensures.bindings;
  prefix = c.in_ok-declare_members_before.ensures.prefix;
  entered = c.in_ok-enter_block.ensures;
}

pub enter_block-requires-clause-may : goal.enter_block-requires-clause-may
enter_block-requires-clause-may c =
    let (uses, walk, here) = c.requires.walk in
    let s = c.declare_members_before.new.bindings in
    may_use c.args.blocks.now c.args.members.now uses s c.args.token (c.in_ok-declare_members_before.ensures.walk uses walk) c.args.block here c.requires.blocks c.in_ok-declare_members_before.ensures.bindings.scope_stack

pub returns-in_default : goal.returns-in_default
returns-in_default c =
    let look = look_up (goal.at.returns-in_default c).In_ok-enter_block in
    record {
      walk = λ uses later le here walk. way_used c.args.blocks.now c.args.members.now uses c.declare_members_before.new.bindings c.args.token (c.in_ok-declare_members_before.ensures.walk uses walk) c.args.block here _ c.enter_block.new.scope_stack later le look.prefix.behind look.entered refl refl;
      bindings = look_same look _ refl refl refl refl;
      prefix = look.prefix;
      found = tt;
      none = look_unnamed look (rw c.in_default.is at c.requires.unnamed);
    }

pub latest_visible-at-requires : goal.latest_visible-at-requires
latest_visible-at-requires c =
    let look = look_up (goal.at.latest_visible-at-requires c).In_ok-enter_block in
    record {
      sorted = rw c.as_slice-2.ensures.value (look_ascend look);
      as_many = ap length c.as_slice-3.ensures.value ∙ look.bindings.as_many;
      within = look_within look c.in-Some.number c.index.result.now (rw c.in-Some.is at c.requires.within) c.index.ensures;
      falls = λ i x e. look_falls look c.as_slice-3.result.now i x c.as_slice-3.ensures.value e;
    }

pub returns : goal.returns
returns c =
    let look = look_up (goal.at.returns c).In_ok-enter_block in
    let n = c.in-Some.number in
    let at = c.latest_visible-at.result in
    let within = rw c.in-Some.is at c.requires.within in
    let named = rw c.in-Some.is at c.requires.named in
    let start = look_start look c.as_slice-2.result.now c.as_slice-3.result.now n c.index.result.now at c.as_slice-2.ensures.value c.as_slice-3.ensures.value within c.index.ensures c.latest_visible-at.ensures.start in
    let shown = subst (λ (stack : List ℕ). IfSome at (λ i. (m : Member) × (slice_get c.args.members.now i ≡ Some m) × IsOpenScope stack m.place)) c.as_slice-2.ensures.value c.latest_visible-at.ensures.«open» in
    record {
      walk = λ uses later le here walk. way_used c.args.blocks.now c.args.members.now uses c.declare_members_before.new.bindings c.args.token (c.in_ok-declare_members_before.ensures.walk uses walk) c.args.block here _ c.enter_block.new.scope_stack later le look.prefix.behind look.entered refl refl;
      bindings = look_sight look _ n at within start refl refl refl refl;
      prefix = look.prefix;
      found = look_found look n at named start shown;
      none = look_none look n at named start;
    }
