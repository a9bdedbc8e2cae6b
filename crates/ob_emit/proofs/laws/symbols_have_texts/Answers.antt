use Rattle.ob_emit.proofs.SymbolsTexted.{target_text}
use Rattle.ob_emit.proofs.laws.symbols_have_texts.Goals as goal

pub returns : goal.returns
returns c = λ w p t s names right few external e. target_text w p names right few t s external e
