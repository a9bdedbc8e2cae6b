use Rattle.ob_emit.proofs.OneSymbol.{declaration_once, only_local}
use Rattle.ob_emit.proofs.SymbolsTexted.{local_texts, one_text}
use Rattle.ob_emit.proofs.laws.symbol_determines_declaration.Goals as goal

pub returns : goal.returns
returns c = record {
  here = λ w p k j s once e f. declaration_once w p once k j s e f;
  elsewhere = λ w v p k j s other e f. only_local w v p other k j s e f;
  text_here = λ w p k j s t once names right e f same. one_text w p k j s t once names right e f same;
  text_elsewhere = λ w v p k j s t other once names there have right e f same. local_texts w v p k j s t other names have once.few there.few right e f same;
}
