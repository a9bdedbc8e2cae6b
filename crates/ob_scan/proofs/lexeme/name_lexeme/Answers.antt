use Rattle.std.proofs.Common.{arith}
use Rattle.ob_scan.proofs.Names.{name_token, name_some}
use Rattle.ob_scan.proofs.lexeme.name_lexeme.Goals as goal

pub returns : goal.returns
returns c =
    let n = c.alnum_prefix_len-n.ensures in
    rw (c.name_kind.ensures, c.split_at.ensures.front) (
      name_token c.args.rest.now c.alnum_prefix_len-n.result c.requires n.value,
      omega (arith, n.value, name_some c.args.rest.now c.requires),
      n.within,
    )
