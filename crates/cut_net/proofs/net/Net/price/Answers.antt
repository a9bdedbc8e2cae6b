use Rattle.cut_net.proofs.OnePricing.{only_said}
use Rattle.cut_net.proofs.net.Net.price.Goals as goal

pub returns-clause-only : goal.returns-clause-only
returns-clause-only c = only_said c.args.self.now c.args.bytes.now c.priced.result c.priced.ensures
