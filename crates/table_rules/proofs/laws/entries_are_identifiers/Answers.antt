use Rattle.table_rules.proofs.Derived.{declared_ident, used_ident, own_ident}
use Rattle.table_rules.proofs.laws.entries_are_identifiers.Goals as goal

pub returns : goal.returns
returns c = record { declared = declared_ident; used = used_ident; own = λ ks m d. (own_ident ks m d).1; name = λ ks m d. (own_ident ks m d).0 }
