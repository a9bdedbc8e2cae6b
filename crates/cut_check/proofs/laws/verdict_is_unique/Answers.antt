use Rattle.std.proofs.Common.{ℕ, ◌≡◌}
use Rattle.cut_net.specs.Network.{Network}
use Rattle.cut_net.specs.AnswerClaim.{AnswerClaim, CutOf, BlockedBy}
use Rattle.cut_net.specs.WellFormed.{IsNetwork}
use Rattle.cut_check.specs.declared.verdict.Verdict.{Verdict}
use Rattle.cut_check.specs.Verdicts.{HasVerdict, IsVerdict}
use Rattle.cut_check.proofs.ChainVerdicts.{some_chain_verdict, only_chain_verdict}
use Rattle.cut_check.proofs.SomeVerdict.{some_verdict}
use Rattle.cut_check.proofs.OnlyVerdict.{only_verdict}
use Rattle.cut_check.proofs.laws.verdict_is_unique.Goals as goal

some : (net : Network) (a b : ℕ) (claim : AnswerClaim) → IsNetwork net → HasVerdict net a b claim
some net a b (CutOf total printed flow) is_net = some_verdict net a b printed total flow is_net
some net a b (BlockedBy chain) is_net = some_chain_verdict net a b chain

only : (net : Network) (a b : ℕ) (claim : AnswerClaim) (verdict other : Verdict) → IsVerdict net a b claim verdict → IsVerdict net a b claim other → verdict ≡ other
only net a b (CutOf total printed flow) verdict other h k = only_verdict net a b printed total flow verdict other h k
only net a b (BlockedBy chain) verdict other h k = only_chain_verdict net a b chain verdict other h k

pub returns-clause-some : goal.returns-clause-some
returns-clause-some c = some

pub returns-clause-only : goal.returns-clause-only
returns-clause-only c = only
