use Rattle.std.proofs.Common.{ap, sym, ◌∙◌, take_all}
use Rattle.ob_interface.specs.Orders.{owner_by, owner_entry}
use Rattle.ob_interface.specs.IndexEntries.{entries_from}
use Rattle.ob_interface.proofs.Ranks.{entries_step}
use Rattle.ob_interface.proofs.entries.record_owner_entries.Goals as goal

pub loop-i-preserved : goal.loop-i-preserved
loop-i-preserved c = entries_step (owner_entry c.args.parts.now) _ _ _ _ _ _ c.loop-i.invariant c.loop-i-test.true (ap (owner_by c.loop-i.i) (sym c.owned_record-record.ensures)) c.in_ok-append_owner_entry.ensures

pub returns : goal.returns
returns c = c.loop-i.invariant ∙ ap (entries_from (owner_entry c.args.parts.now) 0) (take_all c.loop-i.i c.args.rows.now c.loop-i-test.false)
