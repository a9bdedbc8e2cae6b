use Rattle.cut_net.proofs.OneNetReading.{only_said}
use Rattle.cut_net.proofs.net.Net.read.Goals as goal

pub returns-clause-only : goal.returns-clause-only
returns-clause-only c = only_said c.args.bytes.now c.read_net.result c.read_net.ensures
