-- The position's parts.
use Rattle.ob_emit.proofs.Positions.{position_column, position_line}
use Rattle.ob_emit.proofs.locations.position_by_hint.Goals as goal

pub returns-clause-line : goal.returns-clause-line
returns-clause-line c = λ bytes is within. position_line bytes c.args.offset c.position_from_hint.result.line c.position_from_hint.result.column (c.position_from_hint.ensures bytes is within)

pub returns-clause-column : goal.returns-clause-column
returns-clause-column c = λ bytes is within. position_column bytes c.args.offset c.position_from_hint.result.line c.position_from_hint.result.column (c.position_from_hint.ensures bytes is within)
