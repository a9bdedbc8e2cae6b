use Rattle.std.proofs.Common.{sym, ◌∙◌}
use Rattle.std.proofs.lemmas.Bool.{false≢true}
use Rattle.index_store.proofs.query_runs.check_path.Goals as goal

pub returns-in-Some-clause-lacks : goal.returns-in-Some-clause-lacks
returns-in-Some-clause-lacks c index means = rw c.in-Some.is (λ has. false≢true (sym c.if-not-has_path.true ∙ (c.has_path.ensures.exact index means).1 has))

pub returns-in_default-clause-has : goal.returns-in_default-clause-has
returns-in_default-clause-has c index means = rw c.in-Some.is ((c.has_path.ensures.exact index means).0 c.if-not-has_path.false)
