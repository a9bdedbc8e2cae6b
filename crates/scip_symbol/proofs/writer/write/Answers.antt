use Rattle.std.proofs.Common.{◌≡◌, Global}
use Rattle.std.specs.String.{string_bytes}
use Rattle.scip_symbol.specs.Views.{symbol_model}
use Rattle.scip_symbol.specs.Outcomes.{IsWriteOutcome}
use Rattle.scip_symbol.proofs.Answered.{HasOutcome-weaker}
use Rattle.scip_symbol.proofs.OneWriting.{written_once}
use Rattle.scip_symbol.proofs.writer.write.Goals as goal

pub returns-clause-only : goal.returns-clause-only
returns-clause-only c =
    λ o is. HasOutcome-weaker (string_bytes {Z = Global}) c.check_and_write.result (IsWriteOutcome (symbol_model c.args.symbol.now)) (λ p. p ≡ o) c.check_and_write.ensures (λ p other. written_once (symbol_model c.args.symbol.now) p o other is)
