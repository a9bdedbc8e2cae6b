use Rattle.std.proofs.Common.{subst}
use Rattle.std.specs.Prelude.{Contains}
use Rattle.module_table.specs.Parts.{Rows}
use Rattle.table_laws.proofs.OwnedModules.{owns_one}
use Rattle.ob_emit.proofs.laws.trees_declare_once.Goals as goal

pub returns : goal.returns
returns c = λ w m s same scopes few. record {
  once = scopes.once;
  owners = λ r t h j e. owns_one m r t (subst (λ (rows : Rows). Contains rows.records r) same h) (subst (λ (rows : Rows). Contains rows.records t) same j) e;
  few = few;
}
