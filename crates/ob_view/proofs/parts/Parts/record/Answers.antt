use Rattle.std.proofs.Common.{◌∙◌}
use Rattle.module_table.specs.declared.rows.Record.{Record}
use Rattle.ob_view.specs.World.{record_at}
use Rattle.ob_view.proofs.Firsts.{listed}
use Rattle.ob_view.proofs.parts.Parts.«record».Goals as goal

pub returns : goal.returns
unfolding record_at
returns c = c.copied.ensures ∙ listed (λ (r : Record). r.number) _ c.args.number _ c.invariants.ensures.records c.«record».ensures.found c.«record».ensures.number c.«record».ensures.none
