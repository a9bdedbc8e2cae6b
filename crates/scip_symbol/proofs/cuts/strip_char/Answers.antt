use Rattle.std.proofs.lemmas.Str.Pattern.{strip_prefix_char}
use Rattle.scip_symbol.proofs.TextCuts.{after_from}
use Rattle.scip_symbol.proofs.cuts.strip_char.Goals as goal

pub returns : goal.returns
returns c = after_from c.args.delimiter c.args.text.now c.strip_prefix.result (strip_prefix_char c.args.delimiter c.args.text.now c.strip_prefix.result c.strip_prefix.ensures.cases c.requires)
