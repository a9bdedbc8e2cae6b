use Rattle.cut_report.proofs.ChainImports.{least_is_chain}
use Rattle.cut_tests.proofs.written_nets.write_path.Goals as goal

pub write_chain-requires-clause-chain : goal.write_chain-requires-clause-chain
write_chain-requires-clause-chain g c =
    rw c.as_slice.ensures.value (least_is_chain c.args.net.now c.args.from c.args.to c.in-Some.chain.items (rw c.in-Some.is at c.in_ok-chain.ensures.found))
