use Rattle.std.proofs.Common.{subst}
use Rattle.cut_check.specs.Verdicts.{IsChainVerdict}
use Rattle.cut_check.proofs.PinChains.{pin_chain}
use Rattle.cut_check.proofs.checking.check.Goals as goal

pub returns-in-Blocked-clause-cheapest : goal.returns-in-Blocked-clause-cheapest
returns-in-Blocked-clause-cheapest c is_yes =
    let net = c.args.net.now in
    let chain = c.deref.result.now in
    let is_chain = subst (IsChainVerdict net c.args.from c.args.to chain) is_yes c.check_chain.ensures in
    rw c.in-Blocked.is (λ x cut. c.pinned_path_excludes_cut.ensures net c.args.from c.args.to x (pin_chain net c.args.from c.args.to chain is_chain) cut)
