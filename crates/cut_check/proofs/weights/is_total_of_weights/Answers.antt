use Rattle.std.proofs.lemmas.Bool.{false≢true}
use Rattle.cut_check.specs.Reaching.{any}
use Rattle.cut_check.proofs.weights.is_total_of_weights.Goals as goal

pub returns-then-not-matches_weight : goal.returns-then-not-matches_weight
returns-then-not-matches_weight c x marks =
    (λ t. absurd (false≢true t), λ right. c.if-not-matches_weight.ensures.1 (right.0 c.loop-k.k any c.loop-k-test.true))
