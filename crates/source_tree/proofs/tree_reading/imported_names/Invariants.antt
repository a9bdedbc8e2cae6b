use Rattle.std.proofs.Common.{◌≡◌, map, take}
use Rattle.cut_net.specs.Network.{texts}
use Rattle.scopes.specs.Scoped.{AliasUses}
use Rattle.source_tree.proofs.tree_reading.imported_names.Given as goal

abbrev pub invariant-loop-alias : goal.invariant-loop-alias
invariant-loop-alias l = texts l.names.items ≡ map (λ (a : AliasUses). a.imported) (take l.alias-index l.scopes.aliases)
