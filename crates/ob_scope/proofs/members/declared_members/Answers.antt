-- One more identifier.
use Rattle.std.proofs.Common.{◌∷◌, ◌++◌, [], List, None, Some, ap, append-nil, sym, ◌∙◌, arith}
use Rattle.scopes.specs.declared.members.Member.{Member}
use Rattle.ob_scope.proofs.Placing.{members_more}
use Rattle.std.proofs.lemmas.Grind.{common_steps}
use Rattle.ob_scope.proofs.members.declared_members.Goals as goal
use Rattle.ob_scope.proofs.members.declared_members.Goals.{in-Some+in_ok-push, in_default}

pub loop-row-preserved : goal.loop-row-preserved
loop-row-preserved c =
    elim c.match-declared_member.branch [
      | in-Some+in_ok-push w ↦ (
          rw (w.members-is, w.in_ok-push.ensures.items)
          (ap (λ (ms : List Member). ms ++ w.in-Some.member ∷ []) c.loop-row.invariant
          ∙ sym (members_more c.args.decl_groups.now c.args.declared.now c.loop-row.row-index _ (Some w.in-Some.member) c.loop-row-test.true (sym w.in-Some.is ∙ c.declared_member.ensures))))
      | in_default w ↦ (
          rw w.members-is
          (c.loop-row.invariant
          ∙ sym (append-nil _)
          ∙ sym (members_more c.args.decl_groups.now c.args.declared.now c.loop-row.row-index _ None c.loop-row-test.true (sym w.in_default.is ∙ c.declared_member.ensures))))
    ]

pub returns : goal.returns
returns c = grind (arith, common_steps)
