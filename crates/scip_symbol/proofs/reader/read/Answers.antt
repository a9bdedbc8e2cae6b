use Rattle.std.proofs.Common.{◌≡◌}
use Rattle.scip_symbol.specs.Views.{symbol_model}
use Rattle.scip_symbol.specs.Outcomes.{IsReadOutcome}
use Rattle.scip_symbol.proofs.Answered.{HasOutcome-weaker}
use Rattle.scip_symbol.proofs.OneReading.{outcome_once}
use Rattle.scip_symbol.proofs.reader.read.Goals as goal

pub returns-clause-only : goal.returns-clause-only
returns-clause-only c =
    λ o is. HasOutcome-weaker symbol_model c.read_symbol.result (IsReadOutcome c.args.text.now) (λ p. p ≡ o) c.read_symbol.ensures (λ p other. outcome_once c.args.text.now p o other is)
