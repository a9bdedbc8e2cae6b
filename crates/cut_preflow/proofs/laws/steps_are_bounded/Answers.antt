use Rattle.cut_preflow.specs.Flows.{network_between}
use Rattle.cut_preflow.proofs.Bound.{changes_le, legal_le}
use Rattle.cut_preflow.proofs.Networks.{between_is}
use Rattle.cut_preflow.proofs.laws.steps_are_bounded.Goals as goal

pub returns-clause-changes : goal.returns-clause-changes
returns-clause-changes c = λ net a b events is ends. changes_le (network_between net a b) events (between_is net a b is ends)

pub returns-clause-legal : goal.returns-clause-legal
returns-clause-legal c = λ net a b events is ends legal. legal_le (network_between net a b) events (between_is net a b is ends) legal
