use Rattle.std.proofs.Common.{arith}
use Rattle.ob_scan.specs.declared.token.Token.{Token}
use Rattle.ob_resolve.proofs.Within.{place_fits}
use Rattle.ob_resolve.proofs.refs.token_number.Goals as goal

pub overflow_cast-result : goal.overflow_cast-result
overflow_cast-result c = omega (arith, place_fits (λ (t : Token). t.start) c.args.tokens.now c.args.position _ _ c.requires.ascend c.requires.within c.element_fits.fits)
