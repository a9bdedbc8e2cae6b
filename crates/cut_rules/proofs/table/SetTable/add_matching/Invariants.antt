use Rattle.cut_net.specs.Network.{name_of}
use Rattle.glob.specs.Globs.{Fits}
use Rattle.cut_rules.proofs.TableLaws.{IsMatchedTo}
use Rattle.cut_rules.proofs.table.SetTable.add_matching.Given as goal

abbrev pub invariant-loop-node : goal.invariant-loop-node
invariant-loop-node l = IsMatchedTo l.context.net.now l.context.files.now l.initial.self l.set (λ m. Fits l.pattern (name_of l.context.net.now m)) l.node l.any l.self
