use Rattle.std.proofs.Common.{ap, ◌∙◌, take_all}
use Rattle.ob_interface.specs.Orders.{declaration_entry}
use Rattle.ob_interface.specs.IndexEntries.{entries_from}
use Rattle.ob_interface.proofs.Ranks.{entries_step}
use Rattle.ob_interface.proofs.entries.declaration_entries.Goals as goal

pub loop-i-preserved : goal.loop-i-preserved
loop-i-preserved c = entries_step declaration_entry _ _ _ _ _ _ c.loop-i.invariant c.loop-i-test.true c.declaration_entry-entry.ensures c.in_ok-push.ensures.items

pub returns : goal.returns
returns c = c.loop-i.invariant ∙ ap (entries_from declaration_entry 0) (take_all c.loop-i.i c.args.rows.now c.loop-i-test.false)
