-- One more member.
use Rattle.std.proofs.Common.{◌≡◌, ℕ, ◌≤◌, Some, sym, ap, ◌∙◌, subst, arith, ⊎_elim, ◌<◌}
use Rattle.std.specs.Prelude.{slice_get}
use Rattle.std.proofs.lemmas.Bool.{cases_lt}
use Rattle.std.proofs.lemmas.Grind.{elements}
use Rattle.scopes.specs.declared.members.Member.{Member}
use Rattle.ob_scope.specs.BindingStates.{AreBindings}
use Rattle.module_table.proofs.Elements.{some_one}
use Rattle.ob_scope.proofs.bindings.declare_members_before.Goals as goal

pub loop-bindings-init : goal.loop-bindings-init
loop-bindings-init c = record { bindings = c.requires.bindings; before = c.requires.before; some = c.requires.walk; walk = λ uses w. w }

pub declare_member-requires-clause-more : goal.declare_member-requires-clause-more
declare_member-requires-clause-more c = grind (arith, elements)

pub declare_member-requires-clause-walk : goal.declare_member-requires-clause-walk
declare_member-requires-clause-walk c = let (uses, walk) = c.loop-bindings.invariant.some in (uses, c.args.token, walk)

pub loop-bindings-preserved : goal.loop-bindings-preserved
loop-bindings-preserved c =
    let i = c.loop-bindings.invariant in
    let s = c.loop-bindings.bindings in
    let members = c.args.members.now in
    let token = c.args.token in
    let (next, at, less) = c.is_before_token.ensures.yes c.loop-bindings-test.true in
    let cursor : (m : Member) → slice_get members s.next ≡ Some m → m.number ≤ token = λ m there. (let e : next.number ≡ m.number = ap (λ (x : Member). x.number) (some_one next m (sym at ∙ there)) in omega arith) in
    let later = c.in_ok-declare_member.ensures.next in
    record {
      bindings = subst (λ (n : ℕ). AreBindings c.args.blocks.now members c.args.numbers.now n c.declare_member.new.bindings) i.bindings.named c.in_ok-declare_member.ensures.bindings;
      before = λ k m below there.
          ⊎_elim
          (λ (l : k < s.next). i.before k m l there)
          (λ (g : s.next ≤ k). (
          let same : k ≡ s.next = omega arith in
          let e : next.number ≡ m.number = ap (λ (x : Member). x.number) (some_one next m (sym at ∙ ap (slice_get members) (sym same) ∙ there)) in omega arith))
          (cases_lt k s.next);
      some = (let (uses, walk) = i.some in (uses, c.in_ok-declare_member.ensures.walk uses token cursor walk));
      walk = λ uses w. c.in_ok-declare_member.ensures.walk uses token cursor (i.walk uses w);
    }

pub returns-clause-prefix : goal.returns-clause-prefix
returns-clause-prefix c = grind (arith, elements)
