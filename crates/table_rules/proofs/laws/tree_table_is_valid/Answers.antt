use Rattle.table_rules.proofs.Derived.{declared_ident, imported_ident, own_ident, uses_few}
use Rattle.table_rules.proofs.NestedModules.{blocks_whole}
use Rattle.table_rules.proofs.laws.tree_table_is_valid.Goals as goal

pub returns : goal.returns
returns c = λ ks m d. record { own = (own_ident ks m d).1; declared = declared_ident ks m d; imported = imported_ident ks m d; few = uses_few ks m d; blocks = blocks_whole m }
