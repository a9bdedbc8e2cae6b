use Rattle.std.proofs.Common.{◌<◌, arith, rules}
use Rattle.scip_index.proofs.CompactOccurrences.{role_bytes}
use Rattle.scip_index.proofs.compact.append_role_field.Goals as goal

pub returns : goal.returns
returns c =
    let some : 0 < c.args.role = omega (arith, c.if-role-eq0.false) in
    rw (role_bytes c.args.role some c.requires) (search rules)
