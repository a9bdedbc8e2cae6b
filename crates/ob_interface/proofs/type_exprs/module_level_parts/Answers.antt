use Rattle.std.proofs.Common.{ap, ◌∙◌, take_all}
use Rattle.std.specs.List.{filter}
use Rattle.ob_interface.specs.Interfaces.{is_part_by}
use Rattle.ob_interface.proofs.type_exprs.module_level_parts.Goals as goal

pub returns : goal.returns
returns c k there = c.loop-i.invariant k there ∙ ap (filter (is_part_by k)) (take_all c.loop-i.i c.args.parts.now c.loop-i-test.false)
