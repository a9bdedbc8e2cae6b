-- The list of targets after one more use.
use Rattle.std.proofs.Common.{ap, ◌∙◌, map}
use Rattle.std.proofs.lemmas.List.{take_all}
use Rattle.module_table.specs.Parts.{Rows}
use Rattle.module_table.specs.declared.rows.Used.{Used}
use Rattle.ob_view.proofs.Ascending.{mapped_more}
use Rattle.ob_targets.specs.Targets.{use_target}
use Rattle.ob_resolve.proofs.used.use_targets.Goals as goal

pub loop-row-init : goal.loop-row-init
loop-row-init c = c.in_ok-targets.ensures.items

pub loop-row-preserved : goal.loop-row-preserved
loop-row-preserved c =
    rw c.in_ok-push.ensures.items
    (mapped_more (λ (u : Used). use_target c.args.view.now u.number) c.uses-uses.result.now c.loop-row.row-index _ _ _ c.loop-row-test.true c.loop-row.invariant
    c.use_target_by_hint.ensures)

pub returns : goal.returns
returns c =
    c.loop-row.invariant
    ∙ ap (map (λ (u : Used). use_target c.args.view.now u.number)) (take_all c.loop-row.row-index c.uses-uses.result.now c.loop-row-test.false ∙ c.uses-uses.ensures ∙ ap (λ (r : Rows). r.uses) c.table.ensures)
