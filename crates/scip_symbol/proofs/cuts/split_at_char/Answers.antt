use Rattle.std.proofs.lemmas.Str.Pattern.{split_once_first}
use Rattle.scip_symbol.proofs.TextCuts.{cut_from}
use Rattle.scip_symbol.proofs.cuts.split_at_char.Goals as goal

pub returns : goal.returns
returns c = cut_from c.args.delimiter c.args.text.now c.split_once.result (split_once_first c.args.delimiter c.args.text.now c.split_once.result c.split_once.ensures.cases c.requires)
