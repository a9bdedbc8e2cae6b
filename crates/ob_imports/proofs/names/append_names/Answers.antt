-- One more name.
use Rattle.std.proofs.Common.{◌∙◌}
use Rattle.ob_imports.specs.Names.{texts}
use Rattle.ob_imports.proofs.Places.{put_more}
use Rattle.ob_imports.proofs.names.append_names.Goals as goal

pub loop-name-preserved : goal.loop-name-preserved
loop-name-preserved c =
    rw c.in_ok-insert.ensures.keys (put_more (texts c.args.table.now.keys) c.loop-name.table.keys c.args.names.now c.loop-name.name-index c.name-item.result c.in_ok-from_str.field-0
    c.requires c.loop-name.invariant c.loop-name-test.true c.name-item.is (c.in_ok-from_str.ensures.ok ∙ c.as_str.ensures.value))
