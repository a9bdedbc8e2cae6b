use Rattle.index_store.proofs.OneSymbol.{symbol_at_position_is_unique}
use Rattle.index_store.proofs.laws.symbol_at_position_is_unique.Goals as goal

pub returns : goal.returns
returns c = symbol_at_position_is_unique
