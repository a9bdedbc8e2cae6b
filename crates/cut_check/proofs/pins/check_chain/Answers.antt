use Rattle.std.proofs.Common.{refl}
use Rattle.cut_check.proofs.PinChains.{to_chain}
use Rattle.cut_check.proofs.pins.check_chain.Goals as goal

pub returns-in-None : goal.returns-in-None
returns-in-None c = to_chain c.args.net.now c.args.from c.args.to c.args.chain.now (c.if-not-are_chain_ends.ensures.0 refl) c.in-None.ensures
