-- One more use.
use Rattle.std.proofs.Common.{◌<◌, ◌≤◌, length, ◌∙◌}
use Rattle.module_table.specs.Tables.{rows_in}
use Rattle.ob_scope.specs.Crossings.{no_use}
use Rattle.ob_scan.specs.Texts.{text_at}
use Rattle.ob_scope.proofs.ImportUses.{crossings_all, crossings_next, crossings_skip, item_contained}
use Rattle.ob_scope.proofs.Placing.{members_ascend}
use Rattle.ob_scope.proofs.crossing_uses.crossings.Goals as goal
use Rattle.ob_scope.proofs.crossing_uses.crossings.Goals.{in-Some+in_ok-push, in_default}

pub find_crossing-requires : goal.find_crossing-requires
find_crossing-requires c =
    rw (c.as_slice-members.ensures.value, c.in_ok-members.ensures, c.decl_groups.ensures, c.declared.ensures)
    (members_ascend (rows_in c.args.table.now).decl_groups (rows_in c.args.table.now).declared c.invariants.ensures.declared)

pub loop-used-init : goal.loop-used-init
loop-used-init c = λ bytes ts known. rw c.new-found.ensures.items no_use

pub loop-used-preserved : goal.loop-used-preserved
loop-used-preserved c = λ bytes ts known.
    let name = text_at bytes ts in
    let rows = rows_in c.args.table.now in
    let us = c.uses-used-items.result.now in
    let i = c.loop-used.used-index in
    let within : i < length us = c.loop-used-test.true in
    let before = c.loop-used.invariant bytes ts known in
    elim c.match-find_crossing.branch [
      | in-Some+in_ok-push w ↦ (
          rw (w.found-is, w.in_ok-push.ensures.items)
          (crossings_next name rows c.args.imported.now us c.loop-used.found.items i _ _ within before
          (w.in-Some.ensures.found bytes ts rows known (item_contained us _ i _ c.uses-used-items.ensures within))
          w.in-Some.ensures.tokens))
      | in_default w ↦ (
          rw w.found-is
          (crossings_skip name rows c.args.imported.now us c.loop-used.found.items i _ within before
          (w.in_default.ensures.none bytes ts rows known (item_contained us _ i _ c.uses-used-items.ensures within))))
    ]

pub returns : goal.returns
returns c = λ bytes ts scoped.
    let rows = rows_in c.args.table.now in
    let us = c.uses-used-items.result.now in
    let past : length us ≤ c.loop-used.used-index = c.loop-used-test.false in
    let members = rw (c.decl_groups.ensures, c.declared.ensures) at (c.as_slice-members.ensures.value ∙ c.in_ok-members.ensures) in
    crossings_all (text_at bytes ts) rows c.args.imported.now us rows.uses c.loop-used.found.items c.loop-used.used-index c.uses-used-items.ensures past
    (c.loop-used.invariant bytes ts (record { scopes = scoped; ordered = c.invariants.ensures; declared = members }))
