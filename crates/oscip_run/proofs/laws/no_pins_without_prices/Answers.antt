use Rattle.source_tree.specs.Trees.{IsNetOfTree}
use Rattle.oscip_run.specs.Runs.{IsNetOfText}
use Rattle.oscip_run.proofs.WithoutPrices.{plain_text}
use Rattle.oscip_run.proofs.laws.no_pins_without_prices.Goals as goal

pub returns-clause-tree : goal.returns-clause-tree
returns-clause-tree c = λ sources first second text. plain_text (IsNetOfTree sources) (λ net is. is.no_pins) first second text

pub returns-clause-network : goal.returns-clause-network
returns-clause-network c = λ lines first second text. plain_text (IsNetOfText lines) (λ net is. is.0.is_net.no_pins) first second text
