use Rattle.ob_scan.specs.declared.kind.Kind.TheVariants as kinds
use Rattle.table_reader.proofs.FactorTrees.{several_failed}
use Rattle.table_reader.proofs.TypeTrees.{lengths_told}
use Rattle.table_reader.proofs.types.lengths.Goals as goal

pub returns-in-Ok-clause-effect : goal.returns-in-Ok-clause-effect
returns-in-Ok-clause-effect c = lengths_told c.args.source.now.tokens.now c.args.context c.args.depth _ _ _ c.args.input c.in-Ok.here _ c.in-Ok.ensures.effect c.more_lengths.ensures.effect

pub returns-in-Err-clause-effect : goal.returns-in-Err-clause-effect
returns-in-Err-clause-effect c = several_failed c.args.source.now.tokens.now kinds.Comma _ _ _ c.in-Err.ensures.effect
