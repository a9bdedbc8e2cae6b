-- A path of pins gets through whatever may be removed.
use Rattle.std.proofs.Common.{ℕ, List, [], ◌∷◌, subst}
use Rattle.cut_net.specs.Network.{Network}
use Rattle.cut_net.specs.Cuts.{IsChain}
use Rattle.cut_net.specs.Pins.{ByPin, IsPinChain, PinChain}
use Rattle.cut_solve.proofs.blocking.find_blocked_answer.Goals as goal

chain_of : (net : Network) (a b : ℕ) (chain : List ℕ) → IsPinChain net a b chain → PinChain net a b
chain_of net a b [] none = absurd none
chain_of net a b (m ∷ more) (e, chain) = (more, subst (λ (n : ℕ). IsChain net.imports (ByPin net) n more b) e chain)

pub returns-in-Some-clause-cheapest : goal.returns-in-Some-clause-cheapest
returns-in-Some-clause-cheapest c = λ x cut.
    let least = rw c.in-Some.is at c.in_ok-chain.ensures.found in
    c.pinned_path_excludes_cut.ensures c.args.net.now c.args.from c.args.to x (chain_of c.args.net.now c.args.from c.args.to c.in-Some.chain.items least.is_chain) cut
