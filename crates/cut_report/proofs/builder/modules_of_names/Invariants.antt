use Rattle.std.proofs.Common.{◌≡◌, map, Ok}
use Rattle.cut_report.specs.Builders.{chain_of}
use Rattle.cut_report.proofs.builder.modules_of_names.Given as goal

abbrev pub invariant-loop-name : goal.invariant-loop-name
invariant-loop-name l = chain_of l.net (map (λ x. x.now) l.yielded) ≡ Ok l.chain.items
